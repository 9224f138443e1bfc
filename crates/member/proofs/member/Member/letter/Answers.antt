use Rattle.std.proofs.Common.{rules, ap, subst, ◌∙◌}
use Rattle.engine.specs.State as engines
use Rattle.protocol.specs.State.{engine_of}
use Rattle.member.proofs.member.Member.letter.Goals as goal

pub returns-clause-letter : goal.returns-clause-letter
returns-clause-letter c =
    subst (λ e. engines.HasLetter e c.args.position c.letter.result)
    (c.self.invariant.engine ∙ ap engine_of c.self.view_is) c.letter.ensures.letter

pub returns-clause-member : goal.returns-clause-member
returns-clause-member c = search rules
