use Rattle.std.proofs.Common.{◌≡◌, filter}
use Rattle.std.specs.List.{range_with_len}
use Rattle.listing.specs.Tree.{is_marked_at}
use Rattle.engine.proofs.ignored.marked_packages.Given as goal

abbrev pub invariant-loop-position : goal.invariant-loop-position
invariant-loop-position l = l.marked.items ≡ filter (is_marked_at l.tree) (range_with_len 0 l.position)
