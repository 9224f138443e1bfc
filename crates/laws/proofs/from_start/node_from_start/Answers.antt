use Rattle.std.proofs.lemmas.Result.{IfOk-weaker}
use Rattle.dpbn_node.specs.Runs.{run_at}
use Rattle.laws.proofs.FromStart.{node_from_start}
use Rattle.laws.proofs.from_start.node_from_start.Goals as goal

pub returns-clause-ran : goal.returns-clause-ran
returns-clause-ran g c =
    IfOk-weaker c.run_from_start.result _ _
    (λ solo ran. node_from_start (g.F.LogFolder.gave c.args.folder.now c.args.me)
    (g.F.LogFolder.known c.args.folder.now c.args.me)
    (run_at c.args.tree.now c.args.given.now.weights c.args.place) c.args.me
    c.args.given.now.builds c.args.turns solo ran)
    c.run_from_start.ensures.ran
