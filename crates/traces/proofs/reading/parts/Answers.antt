use Rattle.std.proofs.Common.{◌≡◌, ◌∙◌, None, sym, ap, rules}
use Rattle.serde_json.specs.View.{view}
use Rattle.traces.specs.Fields.{◌>>=◌}
use Rattle.traces.specs.Trace.{outer_in, trace_from, value_of}
use Rattle.traces.specs.inside.Given.{Fails}
use Rattle.traces.specs.inside.Kept.{outer_of, weights_in}
use Rattle.traces.proofs.Given.{fails_along}
use Rattle.traces.proofs.Outside.{no_trace, trace_is}
use Rattle.traces.proofs.reading.parts.Goals as goal

pub returns-in_err-weights-clause-err : goal.returns-in_err-weights-clause-err
returns-in_err-weights-clause-err c =
    let keeps = c.in_ok-value.ensures.ok in
    let e = c.in_err-weights.field-0.0 in
    let along = λ (none : weights_in (outer_in (view c.in_ok-value.value)) ≡ None).
    ap outer_of keeps.reads ∙ no_trace keeps.all (ap (λ d. weights_in (outer_in d)) (sym keeps.kept_is) ∙ none) in
    let h : Fails c.in_err-weights.field-0.0 (outer_of (value_of c.args.text.now)) = fails_along e _ _ along c.in_err-weights.ensures in
    search (rules, h)

pub returns-clause-ok : goal.returns-clause-ok
returns-clause-ok c =
    let keeps = c.in_ok-value.ensures.ok in
    let read = ap (λ d. weights_in (outer_in d)) (sym keeps.kept_is) ∙ c.in_ok-weights.ensures in
    ap (λ o. trace_from (o >>= outer_in)) keeps.reads ∙ trace_is keeps.all c.in_ok-value.listed c.in_ok-weights.weights keeps.lists read
