use Rattle.std.proofs.Common.{◌≡◌, ◌++◌, length, map}
use Rattle.std.specs.List.{list_all}
use Rattle.std.specs.Prelude.{option_copied}
use Rattle.faults.specs.Bytes.{dash}
use Rattle.pkgname.specs.Pieces.{pieces_behind}
use Rattle.pkgspec.specs.Spec.{demand_of, is_demand}
use Rattle.pkgspec.proofs.alternative.parse_demands.Given as goal

abbrev pub invariant-demands : goal.invariant-demands
invariant-demands l = record {
  read : map demand_of (pieces_behind dash (option_copied l.fn.texts)) ≡ l.demands.items ++ map demand_of l.left;
  faultless : list_all is_demand (pieces_behind dash (option_copied l.fn.texts)) ≡ list_all is_demand l.left;
}

abbrev pub decreases-demands : goal.decreases-demands
decreases-demands l = length l.left
