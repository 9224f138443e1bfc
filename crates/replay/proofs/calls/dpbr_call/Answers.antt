use Rattle.std.proofs.Common.{List, map, string_bytes}
use Rattle.std.proofs.lemmas.Result.{IfErr-weaker, IfOk-weaker, err_from_is_err_and}
use Rattle.std.proofs.KnownBytes.{Keeps-refl}
use Rattle.clap.specs.Words.{Text as Word}
use Rattle.replay.proofs.Stopping.{call_failed, words_refused}
use Rattle.replay.proofs.calls.dpbr_call.Goals as goal

pub returns-in_err-call-clause-stopped : goal.returns-in_err-call-clause-stopped
returns-in_err-call-clause-stopped g c =
    let p = err_from_is_err_and c.from_residual.result c.from_residual.ensures.1 in
    let words : List Word = map string_bytes c.args.words.now in
    let out = g.O.Write.contents c.args.out.now in
    rw p.1 (words_refused _ words out out c.in_err-call.field-0.0 p.0 (Keeps-refl out) c.in_err-call.ensures.faults p.2)

pub returns-clause-done : goal.returns-clause-done
returns-clause-done g c =
    IfOk-weaker c.carry_out.result _ _
    (λ status printed. record { taken = c.in_ok-call.ensures.faults; call = c.in_ok-call.call; is_call = c.in_ok-call.ensures.call; printed = printed })
    c.carry_out.ensures.printed

pub returns-clause-stopped : goal.returns-clause-stopped
returns-clause-stopped g c =
    let words : List Word = map string_bytes c.args.words.now in
    IfErr-weaker c.carry_out.result _ _
    (call_failed _ words (g.O.Write.contents c.args.out.now) (g.O.Write.contents c.carry_out.new.out) c.in_ok-call.ensures.faults c.in_ok-call.call c.in_ok-call.ensures.call)
    c.carry_out.ensures.stopped
