use Rattle.std.proofs.Common.{◌++◌, ap, ◌∙◌}
use Rattle.serde_json.specs.Written.{compact_text, has_float}
use Rattle.traces.specs.Faults.{trace_view}
use Rattle.traces.specs.Written.{trace_text}
use Rattle.traces.proofs.Depths.{trace_no_float}
use Rattle.traces.proofs.LineFeeds.{trace_fed}
use Rattle.traces.proofs.TraceTexts.{trace_text_again}
use Rattle.traces.proofs.write_trace.Goals as goal

pub returns-clause-ok : goal.returns-clause-ok
returns-clause-ok c =
    let t = trace_view c.args.trace.now in
    let is = c.in_ok-value.ensures in
    let text = c.in_ok-text.ensures.text (ap has_float is ∙ trace_no_float t) ∙ ap compact_text is in
    c.in_ok-extend_from_slice.ensures.items ∙ ap (λ s. c.args.out.now.items ++ s) (c.as_bytes.ensures.value ∙ c.as_str.ensures.value ∙ text)

pub returns-clause-again : goal.returns-clause-again
returns-clause-again c = trace_text_again (trace_view c.args.trace.now)

pub returns-clause-line : goal.returns-clause-line
returns-clause-line c = λ good. trace_fed (trace_text (trace_view c.args.trace.now)) ∙ trace_text_again (trace_view c.args.trace.now) good
