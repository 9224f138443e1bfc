-- The result of parsing a matched number.
use Rattle.std.proofs.Common.{◌≡◌, ◌≤◌, ◌<◌, ◌^◌, ℕ, List, Option, None, Some, IfSome, Result, Ok, refl, sym, subst}
use Rattle.std.specs.Str.Parse.{ParsesUnsigned}
use Rattle.clap.specs.Matches.{ReadsOne}
use Rattle.clap.specs.Words.{Row, Text, one_of}
use Rattle.clap.proofs.CallerReads.{signed_reads}
use Rattle.dpbr_cli.specs.Values.{IsNumber}
use Rattle.dpbr_cli.specs.shared.Matches.{HasNumber}

module _ {E : Type 0} (G : List ℕ → Result ℕ E → Type 0) (k : ℕ)
    (only : (u : List ℕ) (x : Result ℕ E) → G u x → ParsesUnsigned k 10 u x)
    (rows : List Row) (id : Text) (r : Option ℕ)
    (value : (t : List ℕ) → one_of id rows ≡ Some t → ReadsOne G t r) where
  -- the result is the number that the text writes
  pub some_number : (one_of id rows ≡ None → r ≡ None) → IfSome r (IsNumber rows id)
  some_number none = by (one_of id rows) refl
    where
      read : (t : Text) → one_of id rows ≡ Some t → (o : Option ℕ) → ReadsOne G t o → IfSome o (IsNumber rows id)
      read t is None reads = tt
      read t is (Some n) reads = (t, is, sym (only t (Ok n) reads).1)

      by : (o : Option Text) → one_of id rows ≡ o → IfSome r (IsNumber rows id)
      by None is = subst (λ (o : Option ℕ). IfSome o (IsNumber rows id)) (sym (none is)) tt
      by (Some t) is = read t is r (value t is)

  -- a number in range is parsed
  pub number_read : (least most : ℕ) → most < 2 ^ k → HasNumber rows id least most → (n : ℕ) × (r ≡ Some n) × (least ≤ n) × (n ≤ most)
  number_read least most fits has = signed_reads E G k least most has.0 r (value _ has.2) only fits has.1
