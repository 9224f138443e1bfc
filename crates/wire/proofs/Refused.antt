-- Parsers that failed.
use Rattle.std.proofs.Common.{◌≡◌, Result, Err, ◌⊎◌, inl, inr, sym, ap, ◌∙◌}
use Rattle.wire.specs.inside.Given.{Fails, refusal_of}
use Rattle.wire.specs.declared.WireFault.{WireFault}
use Rattle.wire.specs.declared.WireFault.TheVariants.{Memory}
use Rattle.wire.specs.declared.fault.ReadError.{ReadError}
use Rattle.wire.specs.declared.fault.ReadError.TheVariants as errors

-- the refusal of a parser that failed
pub failed : {Y : Type 0} (e : ReadError) (f : WireFault) (read : Result Y WireFault) → f ≡ refusal_of e → Fails e read → (f ≡ Memory) ⊎ (read ≡ Err f)
failed errors.Memory f read e h = inl e
failed (errors.Fault d) f read e h = inr (h ∙ ap Err (sym e))
