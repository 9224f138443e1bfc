use Rattle.std.proofs.Common.{inr}
use Rattle.traces.specs.Faults.{trace_view}
use Rattle.dpbr_run.proofs.text.run_of_events.Goals as goal

pub returns-in-Err-clause-refused : goal.returns-in-Err-clause-refused
returns-in-Err-clause-refused c read is =
    inr (record {
      read = trace_view c.args.trace;
      is_trace = is;
      fault = c.in-Err.fault;
      is_fault = c.in-Err.ensures.refused;
      told = λ j. record { number = c.of.ensures.number j; place = c.of.ensures.place j };
    })

pub returns-in_ok-text-in-Ok-clause-ok : goal.returns-in_ok-text-in-Ok-clause-ok
returns-in_ok-text-in-Ok-clause-ok c read is = record {
  read = trace_view c.args.trace;
  is_trace = is;
  history = c.in-Ok.world;
  of_tree = c.in-Ok.ensures.tree;
  weights = c.in-Ok.ensures.weights;
  events = c.in-Ok.ensures.kept;
  is_history = c.in-Ok.ensures.history;
  outcome = c.in_ok-text-in-Ok.ensures;
}
