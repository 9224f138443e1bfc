use Rattle.std.proofs.Common.{[], ap, arith, ◌≡◌, ◌∙◌, ◌++◌, ◌∷◌}
use Rattle.std.proofs.lemmas.Grind.{common_steps}
use Rattle.dpbr_wayon.proofs.ReadAgain.{line_again, whole}
use Rattle.faults.specs.Bytes.{Text, line_feed}
use Rattle.traces.specs.Written.{trace_text}
use Rattle.dpbr_wayon.proofs.text.written.Goals as goal

pub returns-clause-again : goal.returns-clause-again
returns-clause-again c =
    let both = c.append.new.self.items in
    let text : Text = c.push.new.self.items in
    let told : text ≡ trace_text (whole c.args.weights c.args.events.items c.args.way.items both c.in_ok-append.ensures.items text) ++ line_feed ∷ [] =
    grind (arith, common_steps, c.in_ok-push.ensures, c.in_ok-write_trace.ensures.ok) in
    line_again c.args.weights c.args.events.items c.args.way.items both c.in_ok-append.ensures.items text told c.in_ok-write_trace.ensures.line
