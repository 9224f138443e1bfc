use Rattle.std.proofs.Common.{◌≡◌, ◌<◌, ℕ, None, length, get_or, take}
use Rattle.faults.specs.Answers.{first_given}
use Rattle.listing.specs.inside.BarePackages.{IsBarePackageOf}
use Rattle.listing.specs.inside.Table.{row_fault}
use Rattle.listing.specs.declared.bare_package.BarePackage.{BarePackage}
use Rattle.listing.specs.declared.table.Row.{Row}
use Rattle.listing.proofs.bare_package.bare_packages_of.Given as goal

abbrev pub invariant-loop-row : goal.invariant-loop-row
invariant-loop-row l = record {
  named : first_given row_fault (take l.row-index l.rows) ≡ None;
  counted : length l.bare_packages.items ≡ l.row-index;
  each : (k : ℕ) (d : Row) (e : BarePackage) → k < l.row-index → IsBarePackageOf l.resolutions (get_or l.rows k d) (get_or l.bare_packages.items k e);
}
