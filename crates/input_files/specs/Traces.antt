-- What is reported about traces.
use Rattle.std.specs.Prelude.{◌≡◌, Ok}
use Rattle.faults.specs.Bytes.{Text}
use Rattle.program_io.specs.Files.{RefusesAt}
use Rattle.program_io.specs.declared.refusal.Refusal.{Refusal}
use Rattle.traces.specs.Faults as traces
use Rattle.traces.specs.Faults.{IsTraceFault}
use Rattle.traces.specs.Trace.{Trace, trace_of}
use Rattle.traces.specs.declared.TraceFault.{TraceFault}

-- how the fault of a trace is reported: with the number of the bad event, or 0
abbrev pub trace_refusal : TraceFault → Refusal
trace_refusal e = record { number = traces.number_of e; place = traces.place_of e }

-- what is reported about a text that isn't a trace
abbrev pub RefusesText : Text → Refusal → Type 0
RefusesText trace r = (f : TraceFault) × IsTraceFault trace f × (r ≡ trace_refusal f)

-- a read of this name gave a text that is the trace
abbrev pub IsSpelledAt : (Text → Text → Type 0) → Text → Trace → Type 0
IsSpelledAt Gave name trace = (text : Text) × Gave name text × (trace_of text ≡ Ok trace)

-- what is reported if the file with this name can't be read, or about a text that isn't a trace
abbrev pub RefusesTraceAt : (Text → Text → Type 0) → Text → Refusal → Type 0
RefusesTraceAt Gave name r = RefusesAt Gave name RefusesText r
