use Rattle.std.proofs.Common.{◌≡◌, ◌∙◌, ap}
use Rattle.engine.specs.Division.{unit_at}
use Rattle.protocol.specs.State.{name_at}
use Rattle.scheduler.proofs.Named.{facts_by_name}
use Rattle.scheduler.proofs.eligibility.promised.Goals as goal

pub returns : goal.returns
returns c =
    let s = c.args.member.now in
    let named : c.name.result.now ≡ name_at s c.args.unit =
    c.name.ensures ∙ ap (λ d. (unit_at d c.args.unit).name) c.units.ensures.division in
    c.promised.ensures ∙ ap (λ f. f.promised)
    (facts_by_name s c.units.ensures.member c.args.unit c.requires c.name.result.now named)
