-- Which wishes are claims, and which are questions.
use Rattle.std.proofs.Common.{◌≡◌, ◌∙◌, ℕ, Bool, None, Option, Some, ap, false, inl, inr, sym, true}
use Rattle.std.specs.Prelude.{IfSome, option_map}
use Rattle.std.specs.declared.time.Instant.{Instant}
use Rattle.protocol.specs.State.{State}
use Rattle.turn_rules.specs.Own.{Barred, is_barred}
use Rattle.scheduler.specs.Wishing.{IsAllowed, IsAskFrom, IsClaimWished, IsDueQuestion, IsWishOf, is_claim}
use Rattle.scheduler.specs.declared.desk.Desk.{Desk}
use Rattle.turn_rules.specs.Wishes.{ask_at}
use Rattle.turn_rules.specs.declared.wish.Wish.{Wish}
use Rattle.turn_rules.specs.declared.wish.Wish.TheVariants.{Claim, Ask}

module _ (s : State) (d : Desk) where
  -- a question isn't a claim
  asked : (next : Option ℕ) (wish : Wish) → Some wish ≡ option_map (ask_at s) next
      → is_claim (Some wish) ≡ false
  asked None wish is = let no : ⊥ = cc in absurd no
  asked (Some p) wish is = ap is_claim is

  asked_from : (from : ℕ) (wish : Wish) → IsAskFrom s d from (Some wish) → is_claim (Some wish) ≡ false
  asked_from from wish (next, is_next, is) = asked next wish is

  pub question : (now : Instant) (wish : Wish) → IsDueQuestion s d now wish → is_claim (Some wish) ≡ false
  question now wish (inl (u, first, is)) = ap is_claim (ap Some is)
  question now wish (inr (due, inl ask)) = asked_from d.next wish ask
  question now wish (inr (due, inr (none, ask))) = asked_from 0 wish ask

  -- what is claimed is one
  pub claim : (now : Instant) (wish : Wish) → IsClaimWished s d now wish → is_claim (Some wish) ≡ true
  claim now wish (inl (u, anew, is)) = ap is_claim (ap Some is)
  claim now wish (inr (place, inl (p, resumes, least, (u, number, is)))) = ap is_claim (ap Some is)
  claim now wish (inr (place, inr (none, (turn, p, before, least, (u, number, is))))) =
      ap is_claim (ap Some is)

  -- so a question is allowed at any time
  allowed : (gives_way : Bool) (wish : Wish) → is_claim (Some wish) ≡ false → IsAllowed s gives_way wish
  allowed gives_way (Claim path above) same = absurd (let never : true ≡ false = same in cc)
  allowed gives_way (Ask path) same = tt

  pub questions_allowed : (gives_way : Bool) (now : Instant) (o : Option Wish)
      → IfSome o (IsDueQuestion s d now) → IfSome o (IsAllowed s gives_way)
  questions_allowed gives_way now None due = tt
  questions_allowed gives_way now (Some wish) due = allowed gives_way wish (question now wish due)

  pub questions_wished : (now : Instant) (o : Option Wish) → IfSome o (IsDueQuestion s d now)
      → IfSome o (IsWishOf s d now)
  questions_wished now None due = tt
  questions_wished now (Some wish) due = inr due

-- what is free has a unit
pub has_unit_if_free : (barred : Barred) (o : Option ℕ) → is_barred barred o ≡ false → o ≡ None → ⊥
has_unit_if_free barred None free none = let no : ⊥ = cc in no
has_unit_if_free barred (Some u) free none = let no : ⊥ = cc in no
