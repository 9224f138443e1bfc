use Rattle.std.proofs.Common.{ap, slice_index_or, subst, ◌∙◌}
use Rattle.engine.specs.State as engines
use Rattle.protocol.specs.State.{State, engine_of}
use Rattle.engine.specs.Division.{unit_at}
use Rattle.member.proofs.member.Member.unit_letter.Goals as goal

pub returns : goal.returns
returns c =
    let s = c.args.self.now in
    let engine = c.self.invariant.engine ∙ ap engine_of c.self.view_is in
    let packages =
    c.packages-packages.ensures.value
    ∙ ap (λ (s : State). (unit_at s.division c.args.unit).packages) c.self.view_is in
    subst (λ ps. engines.HasLetter (engine_of s) (slice_index_or ps 0 0) c.letter.result) packages
    (subst
    (λ e. engines.HasLetter e (slice_index_or c.packages-packages.result.now 0 0) c.letter.result)
    engine c.letter.ensures.letter)
