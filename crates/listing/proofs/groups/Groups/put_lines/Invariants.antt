use Rattle.std.proofs.Common.{take}
use Rattle.std.specs.List.{flat_map}
use Rattle.faults.specs.Pieces.{in_order_of_appearance}
use Rattle.listing.specs.inside.Groups.{line_of_group}
use Rattle.listing.specs.inside.Hashing.{Takes}
use Rattle.listing.proofs.groups.Groups.put_lines.Given as goal

abbrev pub invariant-loop-place : goal.invariant-loop-place
invariant-loop-place l = Takes l.initial.hasher l.hasher (flat_map (line_of_group l.self) (take l.place (in_order_of_appearance l.self)))
