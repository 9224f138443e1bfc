use Rattle.std.proofs.lemmas.Result.{IfOk-weaker}
use Rattle.dpbn_node.specs.Runs.{run_at}
use Rattle.laws.proofs.FromStart.{build_from_start}
use Rattle.laws.proofs.from_start.build_from_start.Goals as goal

pub returns-clause-built : goal.returns-clause-built
returns-clause-built g c =
    IfOk-weaker c.build_from_start.result _ _
    (λ solo built. build_from_start (g.F.LogFolder.gave c.args.folder.now c.args.me)
    (g.F.LogFolder.known c.args.folder.now c.args.me)
    (run_at c.args.tree.now c.args.weights.now c.args.place) c.args.me c.args.site.now.rest solo
    built)
    c.build_from_start.ensures.built
