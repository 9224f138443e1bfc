-- What is seen of queued units.
use Rattle.std.proofs.Common.{◌≡◌, ◌∙◌, ℕ, Bool, true, false, None, Option, Some, ap, cond, eqb-true, eq-eqb, refl, subst, sym}
use Rattle.std.specs.Prelude.{IfSome, if◌then◌else◌, is_some, nat_eq}
use Rattle.std.specs.declared.time.Instant.{Instant}
use Rattle.turn_rules.specs.Own.{Barred, is_barred}
use Rattle.engine.specs.Division.{number_of}
use Rattle.turn_rules.proofs.Owned.{NoneFreeBefore}
use Rattle.protocol.specs.State.{State}
use Rattle.scheduler.specs.Waiting.{AreSince, IsSeen, SeenBy, is_seen}
use Rattle.scheduler.specs.declared.seen.Seen.{Seen}

-- one more is kept by its unit
abbrev pub IsKept : SeenBy → ℕ → Seen → SeenBy → Type 0
IsKept old unit a new = (u : ℕ) → new u ≡ (if nat_eq unit u then Some a else old u)

-- one of two that are seen
one_of : (s : State) (before : SeenBy) (now : Instant) (unit u : ℕ) (a : Seen) (o : Option Seen) (b : Bool)
    → (b ≡ true → unit ≡ u) → IsSeen s before now unit a → IfSome o (IsSeen s before now u)
    → IfSome (cond b (Some a) o) (IsSeen s before now u)
one_of s before now unit u a o true same is was = subst (λ v. IsSeen s before now v a) (same refl) is
one_of s before now unit u a o false same is was = was

-- what was there, or one more, is there
still_there : (b : Bool) (a : Seen) (o : Option Seen) → is_some o ≡ true
    → is_some (cond b (Some a) o) ≡ true
still_there true a o h = refl
still_there false a o h = h

-- what is false with more bars is false with fewer
still_false : (b c : Bool) → (b ≡ true → c ≡ true) → c ≡ false → b ≡ false
still_false true c more e = sym (more refl) ∙ e
still_false false c more e = refl

unbarred : (barred more : Barred) → ((u : ℕ) → barred u ≡ true → more u ≡ true) → (o : Option ℕ)
    → is_barred more o ≡ false → is_barred barred o ≡ false
unbarred barred more mono None e = e
unbarred barred more mono (Some u) e = still_false (barred u) (more u) (mono u) e

module _ (s : State) where
  -- where more is barred, none is free that was not
  pub none_freed : (barred more : Barred) → ((u : ℕ) → barred u ≡ true → more u ≡ true) → (from : ℕ)
      → NoneFreeBefore s barred from → NoneFreeBefore s more from
  none_freed barred more mono from none k below free =
      none k below (free.0, unbarred barred more mono (number_of s.division k) free.1)

  module _ (before : SeenBy) (now : Instant) (old : SeenBy) (unit : ℕ) (a : Seen) (new : SeenBy)
      (kept : IsKept old unit a new) where
    -- all are as they are seen, with one more that is
    pub all_since : IsSeen s before now unit a → AreSince s before now old → AreSince s before now new
    all_since is all u =
        subst (λ o. IfSome o (IsSeen s before now u)) (sym (kept u))
        (one_of s before now unit u a (old u) (nat_eq unit u) (eqb-true unit u) is (all u))

    -- what was among them is
    pub all_seen : (u : ℕ) → is_seen old u ≡ true → is_seen new u ≡ true
    all_seen u was = ap is_some (kept u) ∙ still_there (nat_eq unit u) a (old u) was

    -- and the unit is
    pub one_seen : (number : Option ℕ) → number ≡ Some unit → is_barred (is_seen new) number ≡ true
    one_seen number is =
        ap (is_barred (is_seen new)) is
        ∙ ap is_some (kept unit ∙ ap (λ b. cond b (Some a) (old unit)) (eq-eqb unit unit refl))
