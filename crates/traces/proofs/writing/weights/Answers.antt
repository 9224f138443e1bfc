use Rattle.std.proofs.Common.{◌∙◌, ap, arith, get_or, refl}
use Rattle.serde_json.proofs.Views.{view-Array}
use Rattle.serde_json.specs.View.{view}
use Rattle.traces.specs.Written.{list_data, natural}
use Rattle.traces.proofs.Lists.{written_all, written_more}
use Rattle.traces.proofs.writing.weights.Goals as goal

pub loop-one-preserved : goal.loop-one-preserved
loop-one-preserved c =
    let all = c.args.all.now in
    let at = c.loop-one.one-index in
    rw c.in_ok-push.ensures.items
    (written_more view natural c.loop-one.items.items all at c.from.result (get_or all at 0) 0 c.loop-one-test.true refl c.from.ensures c.loop-one.invariant)

pub returns : goal.returns
returns c =
    view-Array c.loop-one.items
    ∙ ap list_data (written_all view natural c.loop-one.items.items c.args.all.now c.loop-one.one-index
    (omega (arith, c.loop-one-test.false)) c.loop-one.invariant)
