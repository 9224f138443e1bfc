-- What holds of the texts of traces and of BUILDS.
use Rattle.std.specs.Prelude.{◌≡◌, ◌++◌, [], ◌∷◌, Ok}
use Rattle.faults.specs.Bytes.{Text, line_feed}
use Rattle.traces.specs.Again.{IsTextTrace}
use Rattle.traces.specs.Builds.{builds_of}
use Rattle.traces.specs.Trace.{Trace, trace_of}
use Rattle.traces.specs.Written.{trace_text}

-- ---- what is written is parsed again

-- the text of each such trace is parsed as that trace
abbrev pub TraceTextIsReadAgain : Type 0
TraceTextIsReadAgain = (t : Trace) → IsTextTrace t → trace_of (trace_text t) ≡ Ok t

-- also with a line feed after it
abbrev pub TraceLineIsReadAgain : Type 0
TraceLineIsReadAgain =
    (t : Trace) → IsTextTrace t → trace_of (trace_text t ++ line_feed ∷ []) ≡ Ok t

-- ---- line feeds

-- a line feed after a text doesn't change which trace it is, or where it is bad
abbrev pub LineFeedBehindATraceChangesNothing : Type 0
LineFeedBehindATraceChangesNothing =
    (text : Text) → trace_of (text ++ line_feed ∷ []) ≡ trace_of text

-- a line feed after a text doesn't change its contents as BUILDS, or that it is invalid
abbrev pub LineFeedBehindBuildsChangesNothing : Type 0
LineFeedBehindBuildsChangesNothing =
    (text : Text) → builds_of (text ++ line_feed ∷ []) ≡ builds_of text
