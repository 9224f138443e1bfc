use Rattle.std.proofs.Common.{◌≡◌, ◌++◌, filter_map, length}
use Rattle.std.specs.List.{list_all}
use Rattle.std.specs.Prelude.{option_copied}
use Rattle.faults.specs.Bytes.{comma}
use Rattle.pkgname.specs.Pieces.{pieces_behind}
use Rattle.pkgspec.specs.Spec.{bound_of, is_bound}
use Rattle.pkgspec.proofs.alternative.parse_bounds.Given as goal

abbrev pub invariant-bounds : goal.invariant-bounds
invariant-bounds l = record {
  read : filter_map bound_of (pieces_behind comma (option_copied l.fn.texts)) ≡ l.bounds.items ++ filter_map bound_of l.left;
  faultless : list_all is_bound (pieces_behind comma (option_copied l.fn.texts)) ≡ list_all is_bound l.left;
}

abbrev pub decreases-bounds : goal.decreases-bounds
decreases-bounds l = length l.left
