use Rattle.std.proofs.Common.{◌≡◌, ◌<◌, ◌∙◌, Some, ap, length, option_map, subst, sym}
use Rattle.std.specs.Option.{option_copied}
use Rattle.member.specs.OpenClaims.{open_of}
use Rattle.protocol.specs.Member.{IsOpen}
use Rattle.turn_rules.proofs.nays.above_after.Goals as goal

pub name-requires : goal.name-requires
name-requires c =
    let s = c.args.member.now in
    let at : s.claim ≡ Some (open_of c.in-Some.open.now) =
    sym c.open_claim.ensures.claim
    ∙ ap (λ r. option_map open_of (option_copied r)) c.in-Some.is in
    let stands : IsOpen s (open_of c.in-Some.open.now) =
    c.open_claim.ensures.member.claim (open_of c.in-Some.open.now) at in
    subst (λ d. c.in-Some.open.now.unit < length d.units) (sym c.units.ensures.division) stands.unit
