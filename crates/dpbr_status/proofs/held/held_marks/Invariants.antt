use Rattle.std.proofs.Common.{take}
use Rattle.listing.specs.Lines.{lines_of}
use Rattle.dpbr_status.proofs.Holding.{HasHeld}
use Rattle.dpbr_status.proofs.held.held_marks.Given as goal

abbrev pub invariant-loop-index : goal.invariant-loop-index
invariant-loop-index l = HasHeld l.tree (take l.index (lines_of l.text)) l.held.items
