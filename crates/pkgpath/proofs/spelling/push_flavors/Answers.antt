use Rattle.std.proofs.Common.{◌≡◌, ◌≤◌, ◌∷◌, ◌++◌, Some, None, arith, ap, sym, ◌∙◌, Bor}
use Rattle.std.proofs.lemmas.List.{append-nil}
use Rattle.std.proofs.lemmas.List.Folds.{flat_map-map}
use Rattle.std.specs.List.{count_by, find, flat_map}
use Rattle.std.specs.Option.{option_copied}
use Rattle.faults.specs.Bytes.{Text, comma}
use Rattle.faults.specs.Pieces.{pieces_at}
use Rattle.pkgpath.proofs.Writing.{filter-no, filter-one}
use Rattle.pkgpath.specs.PkgPath.{is_flavor}
use Rattle.pkgpath.proofs.spelling.push_flavors.Goals as goal

pub returns-in_ok-push_parts : goal.returns-in_ok-push_parts
returns-in_ok-push_parts c =
    c.in_ok-push_parts.ensures
    ∙ ap (λ rest. c.args.out.now.items ++ rest)
    (ap (flat_map (λ (part : Bor Text). comma ∷ part.now)) c.as_slice.ensures.value
    ∙ sym (flat_map-map (λ (part : Text). comma ∷ part) (λ (x : Bor Text). x.now) c.in_ok-set.set.items)
    ∙ ap (flat_map (λ (part : Text). comma ∷ part)) c.in_ok-set.ensures)

pub returns-in_ok-push_part : goal.returns-in_ok-push_part
returns-in_ok-push_part c =
    let parts = pieces_at comma c.args.parts.now in
    let found : find is_flavor parts ≡ Some c.in-Some.flavor.now = sym c.requires.flavor ∙ ap option_copied c.in-Some.is in
    let one : count_by is_flavor parts ≤ 1 = omega (arith, c.requires.flavors) in
    rw (filter-one is_flavor parts c.in-Some.flavor.now found one, append-nil c.in-Some.flavor.now) c.in_ok-push_part.ensures

pub returns-in_default : goal.returns-in_default
returns-in_default c =
    let parts = pieces_at comma c.args.parts.now in
    let found : find is_flavor parts ≡ None = sym c.requires.flavor ∙ ap option_copied c.in_default.is in
    rw (filter-no is_flavor parts found) (sym (append-nil c.args.out.now.items))
