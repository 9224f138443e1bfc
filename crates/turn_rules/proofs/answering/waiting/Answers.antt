use Rattle.std.proofs.Common.{◌≡◌, ◌∙◌, Some, ap, option_map, sym}
use Rattle.std.specs.Option.{option_copied}
use Rattle.member.specs.OpenClaims.{open_of, progress_of_claimer}
use Rattle.protocol.specs.Member.{IsOpen}
use Rattle.turn_rules.proofs.answering.waiting.Goals as goal

pub returns-in-Building : goal.returns-in-Building
returns-in-Building c =
    let s = c.args.member.now in
    let o = c.in_ok-open.open.now in
    let at : s.claim ≡ Some (open_of o) =
    sym c.open_claim.ensures.claim
    ∙ ap (λ r. option_map open_of (option_copied r)) c.in_ok-open.was in
    let stands : IsOpen s (open_of o) = c.open_claim.ensures.member.claim (open_of o) at in
    record {
      host = o.host;
      claim = c.in-Building.claim;
      is_open = at ∙ ap (λ claimer. Some (record {
        unit = o.unit;
        host = o.host;
        progress = progress_of_claimer claimer;
      })) c.in-Building.is;
      there = stands.unit;
    }
