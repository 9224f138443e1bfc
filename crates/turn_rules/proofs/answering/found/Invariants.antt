use Rattle.std.proofs.Common.{◌≡◌, map, take, true}
use Rattle.turn_rules.specs.Answering.{has_files}
use Rattle.listing.specs.Tree.{path_at}
use Rattle.protocol.specs.Jobs.{files_for}
use Rattle.turn_rules.proofs.answering.found.Given as goal

abbrev pub invariant-loop-position : goal.invariant-loop-position
invariant-loop-position l =
    (l.items.items ≡ map (λ path. (path, files_for l.builds path))
    (map (path_at l.tree) (take l.position-index l.positions)))
    × (has_files l.builds (map (path_at l.tree) (take l.position-index l.positions)) ≡ true)
