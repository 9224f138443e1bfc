use Rattle.std.proofs.Common.{List, ◌∙◌, ap, inr, map, subst}
use Rattle.protocol.specs.Events.{event_view}
use Rattle.protocol.specs.declared.event.Event as declared
use Rattle.simulator.specs.History.{IsRunFault}
use Rattle.traces.specs.Faults.{trace_view}
use Rattle.dpbr_run.proofs.events.run_with_events.Goals as goal

pub returns-clause-refused : goal.returns-clause-refused
returns-clause-refused c read is =
    inr (record {
      read = trace_view c.args.trace;
      is_trace = is;
      fault = c.in-Err.fault;
      is_fault = subst (λ (es : List declared.Event). IsRunFault c.args.tree.now c.args.trace.weights (map event_view es) c.in-Err.fault.event
          c.in-Err.fault.fault) c.as_slice.ensures.value c.in-Err.ensures.refused;
      told = λ j. record { number = c.of.ensures.number j; place = c.of.ensures.place j };
    })

pub returns-in-Ok-clause-ok : goal.returns-in-Ok-clause-ok
returns-in-Ok-clause-ok c read is =
    let told = c.in-Ok.ensures in
    let shown = c.in_ok-text-in-Ok.ensures in
    record {
      lines = c.in-Ok.told.1.items;
      rest = shown.0;
      run = record {
        read = trace_view c.args.trace;
        is_trace = is;
        history = c.in-Ok.told.0;
        of_tree = told.tree;
        weights = told.weights;
        events = told.kept ∙ ap (map event_view) c.as_slice.ensures.value;
        is_history = told.history;
        outcome = shown.1;
      };
      are_lines = told.lines;
      parts = shown.2;
    }
