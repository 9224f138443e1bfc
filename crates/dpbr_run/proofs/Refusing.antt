-- What is reported about a trace.
use Rattle.std.proofs.Common.{◌≡◌, ◌⊎◌, inl, inr}
use Rattle.faults.specs.Bytes.{Text}
use Rattle.listing.specs.Tree.{Tree}
use Rattle.dpbr_run.specs.Run.{RefusesEvent, RefusesTrace}
use Rattle.program_io.specs.Files.{RefusesAt}
use Rattle.program_io.specs.Refusals.{memory_refusal}
use Rattle.program_io.specs.declared.refusal.Refusal.{Refusal}
use Rattle.input_files.specs.Traces.{RefusesTraceAt}

-- out of memory, or what is reported about an event
pub event_refused : (trace : Text) (tree : Tree) (r : Refusal) → (r ≡ memory_refusal) ⊎ RefusesEvent tree trace r
    → (r ≡ memory_refusal) ⊎ RefusesTrace trace tree r
event_refused trace tree r (inl memory) = inl memory
event_refused trace tree r (inr refused) = inr (inr refused)

-- the text with this name isn't a trace
pub trace_refused : (Gave : Text → Text → Type 0) (name : Text) (tree : Tree) (r : Refusal) → RefusesTraceAt Gave name r
    → RefusesAt Gave name (λ text. RefusesTrace text tree) r
trace_refused Gave name tree r (inl system) = inl system
trace_refused Gave name tree r (inr (trace, gave, refused)) = inr (trace, gave, inl refused)
