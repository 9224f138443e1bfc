use Rattle.std.proofs.Common.{subst}
use Rattle.std.specs.Prelude.{option_map}
use Rattle.lone_node.specs.Handed.{handed}
use Rattle.laws.proofs.Reopened.{opened_again}
use Rattle.node.specs.OnLog.{IsLogged}
use Rattle.stable_record.specs.History.{seen}
use Rattle.laws.proofs.reopening.turn_then_open.Goals as goal

pub returns-in-Ok-clause-left : goal.returns-in-Ok-clause-left
returns-in-Ok-clause-left g c = λ kept kept_then on gone.
    let passed = handed (option_map (λ b. b.now) c.args.made) c.args.initiative in
    let old = c.args.solo.now in
    let new = c.turn_with-answer.new.self in
    let e = c.turn_with-answer.ensures in
    opened_again g.D.Disk g.P.Port
    passed old new (subst IsLogged c.node.ensures c.member-node.ensures.node)
    on kept_then c.turn_with-answer.result e.done.taken e.log.any_moment
    e.refuses.refused e.log.untouched c.args.tree.now c.args.weights.now c.args.me c.requires.own
    c.in-Ok.ensures.one_answer (seen (g.E.Disk.history c.args.left)) gone c.in-Ok.node.node
    c.in-Ok.ensures.node (c.in-Ok.ensures.notes kept)
