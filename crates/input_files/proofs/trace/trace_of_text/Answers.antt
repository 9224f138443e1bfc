use Rattle.input_files.proofs.trace.trace_of_text.Goals as goal

pub returns-in-Err-clause-refused : goal.returns-in-Err-clause-refused
returns-in-Err-clause-refused c = (
  c.in-Err.fault,
  c.in-Err.ensures.err,
  λ j. record { number = c.of.ensures.number j; place = c.of.ensures.place j },
)
