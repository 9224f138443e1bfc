use Rattle.turn_rules.proofs.Waiting.{answer_part, parts_are}
use Rattle.std.proofs.Common.{subst}
use Rattle.turn_rules.specs.inside.Answering.{IsWaiting}
use Rattle.turn_rules.proofs.answering.answer.Goals as goal

pub answered-requires-clause-parts : goal.answered-requires-clause-parts
answered-requires-clause-parts g c =
    parts_are c.args.node.now.node.member c.member-2.result.now c.member-2.ensures.member
    c.member.ensures.node.node.member c.in-Some.unit c.in_ok-name.name c.in_ok-name.ensures.name
    c.args.builds.now c.in_ok-name.given c.in_ok-name.ensures.given

pub returns-clause-part : goal.returns-clause-part
returns-clause-part g c =
    let w = subst (λ s. IsWaiting s c.in-Some.unit) c.member.ensures.member c.in-Some.ensures in
    answer_part c.answered.new.node c.args.node.now.node.member c.member-2.result.now
    c.member-2.ensures.member c.in-Some.unit c.args.builds.now c.in_ok-name.given
    c.in_ok-name.ensures.given c.in_ok-answered.field-0 w (c.in_ok-answered.ensures.readied w)
