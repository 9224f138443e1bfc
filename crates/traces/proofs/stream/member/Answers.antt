use Rattle.std.proofs.Common.{◌≡◌, ◌∙◌, sym, bytes_eq, codes, true, false}
use Rattle.std.proofs.lemmas.Result.{IfOk-weaker}
use Rattle.traces.proofs.Keeping.{keeps_events, keeps_other}
use Rattle.traces.proofs.stream.member.Goals as goal

pub returns-then-eq-clause-ok : goal.returns-then-eq-clause-ok
returns-then-eq-clause-ok c =
    let is : bytes_eq c.args.key.now (codes "events") ≡ true = sym c.eq.ensures ∙ c.if-eq.true in
    IfOk-weaker c.events.result _ _ (λ r keeps. keeps_events c.args.key.now c.args.reader.now c.events.new.reader r.0 c.args.listed r.1 is keeps) c.events.ensures.ok

pub returns-in_ok-value-clause-ok : goal.returns-in_ok-value-clause-ok
returns-in_ok-value-clause-ok c =
    let other : bytes_eq c.args.key.now (codes "events") ≡ false = sym c.eq.ensures ∙ c.if-eq.false in
    let read = c.in_ok-value.ensures in
    keeps_other c.args.key.now c.args.reader.now c.next_value.new.reader c.in_ok-value.value c.args.listed other read.ok read.shorter
