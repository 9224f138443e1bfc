use Rattle.std.proofs.Common.{subst}
use Rattle.std.specs.Prelude.{option_map}
use Rattle.lone_node.specs.Handed.{handed}
use Rattle.laws.proofs.Turning.{refusals_so, stayed_so, taken_so}
use Rattle.node.specs.OnLog.{IsLogged}
use Rattle.lone_node.specs.Turn.{LeavesAtMost}
use Rattle.laws.proofs.turns.turn_on_host.Goals as goal

pub returns-clause-turned : goal.returns-clause-turned
returns-clause-turned g c =
    let passed = handed (option_map (λ b. b.now) c.args.made) c.args.initiative in
    taken_so g.P.Port passed
    (LeavesAtMost g.D.Disk c.args.solo.now c.turn_with.new.self)
    c.args.solo.now c.turn_with.new.self
    (subst IsLogged c.node.ensures c.member-node.ensures.node)
    c.turn_with.result c.turn_with.ensures.done.taken

pub returns-clause-refused : goal.returns-clause-refused
returns-clause-refused g c =
    let passed = handed (option_map (λ b. b.now) c.args.made) c.args.initiative in
    refusals_so g.P.Port passed
    (LeavesAtMost g.D.Disk c.args.solo.now c.turn_with.new.self)
    c.args.solo.now c.turn_with.new.self
    (subst IsLogged c.node.ensures c.member-node.ensures.node)
    c.turn_with.result c.turn_with.ensures.refuses.refused

pub returns-clause-nothing : goal.returns-clause-nothing
returns-clause-nothing g c = c.turn_with.ensures.done.nothing

pub returns-clause-stayed : goal.returns-clause-stayed
returns-clause-stayed g c =
    let passed = handed (option_map (λ b. b.now) c.args.made) c.args.initiative in
    stayed_so g.P.Port passed
    (LeavesAtMost g.D.Disk c.args.solo.now c.turn_with.new.self)
    c.args.solo.now c.turn_with.new.self
    (subst IsLogged c.node.ensures c.member-node.ensures.node)
    c.turn_with.result c.turn_with.ensures.done.same
