use Rattle.std.proofs.Common.{◌∙◌, ap, arith}
use Rattle.protocol.specs.Events.{event_view}
use Rattle.serde_json.proofs.Views.{view-Array}
use Rattle.serde_json.specs.View.{view}
use Rattle.traces.specs.Written.{event_data, list_data}
use Rattle.traces.proofs.Lists.{seen_all, seen_more}
use Rattle.traces.proofs.writing.events.Goals as goal

pub loop-one-preserved : goal.loop-one-preserved
loop-one-preserved c =
    rw c.in_ok-push.ensures.items
    (seen_more view event_data event_view c.loop-one.items.items c.args.all.now c.loop-one.one-index c.in_ok-event.field-0 c.one-item.result c.loop-one-test.true c.one-item.is c.in_ok-event.ensures c.loop-one.invariant)

pub returns : goal.returns
returns c =
    view-Array c.loop-one.items
    ∙ ap list_data (seen_all view event_data event_view c.loop-one.items.items c.args.all.now c.loop-one.one-index
    (omega (arith, c.loop-one-test.false)) c.loop-one.invariant)
