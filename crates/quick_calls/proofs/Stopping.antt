-- What was written if the program stops.
use Rattle.std.proofs.Common.{◌≡◌, ℕ, List, Option, arith, inl, inr, refl, subst, sym}
use Rattle.std.specs.Io.KnownBytes.{Keeps}
use Rattle.clap.specs.Words.{HasKind, IsAmong, Kinds, Text as Word, kind_of}
use Rattle.clap.specs.declared.error.Error.{Error}
use Rattle.faults.specs.Bytes.{Text}
use Rattle.program_io.specs.Stops.{StopsBy, status_after}
use Rattle.quick_calls.specs.Stopped.{CannotCarryOut, HasStopped}
use Rattle.program_io.specs.declared.stop.Stop.{Stop}
use Rattle.program_io.specs.declared.stop.Stop.TheVariants.{Refused, Unwritten, WrongWords}
use Rattle.dpbr_cli.specs.Calls.{AreTaken, IsCallOf, faults_of, matched}
use Rattle.dpbr_cli.specs.declared.Call.{Call}

module _ (Gave : Text → Text → Type 0) (words : List Word) (before after : Option (List ℕ)) where
  -- clap refused the arguments
  pub words_refused : (e : Error) (stop : Stop) → Keeps before after → HasKind (faults_of words) e → StopsBy e stop → HasStopped Gave words stop before after
  words_refused e stop keeps kind (inl (memory, is)) =
      let P : Stop → Type 0 = λ s. HasStopped Gave words s before after in
      subst P (sym is) (inl (refl, keeps))
  words_refused e stop keeps (inl memory) (inr (other, is)) = absurd (other memory)
  words_refused e stop keeps (inr among) (inr (other, is)) =
      let P : Stop → Type 0 = λ s. HasStopped Gave words s before after in
      subst P (sym is) (among, keeps)

  -- the call that was matched failed
  pub call_failed : AreTaken words → (call : Call) → IsCallOf (matched words) call → (stop : Stop) → CannotCarryOut Gave call stop before after → HasStopped Gave words stop before after
  call_failed taken call is_call (WrongWords e) failed = absurd failed
  call_failed taken call is_call (Refused r) failed = inr (record { taken = taken; call = call; is_call = is_call; failed = failed })
  call_failed taken call is_call (Unwritten r) failed = record { taken = taken; call = call; is_call = is_call; failed = failed }

  -- status 2 means that the arguments are wrong
  pub wrong_words : (stop : Stop) → status_after stop ≡ 2 → HasStopped Gave words stop before after → (¬ AreTaken words) × Keeps before after
  wrong_words (WrongWords e) two stopped = ((λ taken. subst (λ (kinds : Kinds). IsAmong (kind_of e) kinds) taken stopped.0), stopped.1)
  wrong_words (Refused r) two stopped = absurd (let no : 1 ≡ 2 = two in omega (arith, no))
  wrong_words (Unwritten r) two stopped = absurd (let no : 1 ≡ 2 = two in omega (arith, no))
