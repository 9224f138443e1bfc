use Rattle.dpbr_status.proofs.PackageLines.{HasLines}
use Rattle.dpbr_status.proofs.text.status_text.Given as goal

abbrev pub invariant-loop-position : goal.invariant-loop-position
invariant-loop-position l = HasLines l.letters l.position l.text.items
