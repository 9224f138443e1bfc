use Rattle.traces.proofs.Values.{no_value, value_read}
use Rattle.traces.proofs.reading.value.Goals as goal

pub returns-in-Ok : goal.returns-in-Ok
returns-in-Ok c = value_read c.args.text.now _ c.in-Ok.ensures.ok.0 c.in-Ok.ensures.ok.1

pub returns-in-Err-2 : goal.returns-in-Err-2
returns-in-Err-2 c = no_value c.args.text.now (c.in-Err.ensures.err (λ memory. let h = c.if-is_memory.ensures.1 memory in cc))
