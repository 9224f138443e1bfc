use Rattle.std.proofs.Common.{◌≡◌, true, map}
use Rattle.std.specs.List.{list_all}
use Rattle.pkgpath.specs.Kind.{IsTally}
use Rattle.pkgpath.specs.PkgPath.{is_part}
use Rattle.pkgpath.proofs.parts.count_parts.Given as goal

abbrev pub invariant-loop-part : goal.invariant-loop-part
invariant-loop-part l =
    let seen = map (λ x. x.now) l.yielded in
    record {
      parts : list_all is_part seen ≡ true;
      tally : IsTally (record { empties = l.empties; subpackages = l.subpackages; subpackage = l.subpackage; flavors = l.flavors; flavor = l.flavor }) seen;
    }
