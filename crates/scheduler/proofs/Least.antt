-- The claim for the least package that is looked for.
use Rattle.std.proofs.Common.{◌≡◌, ℕ, Err, None, Ok, Option, Result, Some, true}
use Rattle.std.specs.Prelude.{IfOk, IfSome}
use Rattle.std.specs.declared.time.Instant.{Instant}
use Rattle.protocol.specs.State.{State}
use Rattle.scheduler.specs.Wishing.{IsClaimAt, IsFirstInTurn, IsLeastOf, IsResumed, NoneBefore}
use Rattle.scheduler.specs.declared.desk.Desk.{Desk}
use Rattle.scheduler.specs.declared.sought.Sought.TheVariants.{InTurn, Mine}
use Rattle.turn_rules.specs.declared.wish.Wish.{Wish}

-- what follows from each wish follows from the one that is returned, if one is
wish_then : {E : Type 0} (r : Result (Option Wish) E) (P Q : Wish → Type 0)
    → ((wish : Wish) → P wish → Q wish)
    → IfOk r (λ o. IfSome o P) → IfOk r (λ o. IfSome o Q)
wish_then (Ok (Some wish)) P Q more is = more wish is
wish_then (Ok None) P Q more is = tt
wish_then (Err fault) P Q more is = tt

module _ (s : State) (d : Desk) (now : Instant) (p : ℕ) where
  -- it is one of this run's first, if what is looked for was the member's own before
  pub resumed_at : {E : Type 0} (r : Result (Option Wish) E) → d.resumes ≡ true
      → IsLeastOf d s (Some now) Mine (Some p) → IfOk r (λ o. IfSome o (IsClaimAt s d p))
      → IfOk r (λ o. IfSome o (IsResumed s d now))
  resumed_at r resumes least is =
      wish_then r (IsClaimAt s d p) (IsResumed s d now) (λ wish at. (p, resumes, least, at)) is

  -- it is one of the first turn, if an earlier turn has no such unit
  pub first_at : {E : Type 0} (r : Result (Option Wish) E) (turn : ℕ) → NoneBefore s d now turn
      → IsLeastOf d s (Some now) (InTurn turn) (Some p)
      → IfOk r (λ o. IfSome o (IsClaimAt s d p))
      → IfOk r (λ o. IfSome o (IsFirstInTurn s d now))
  first_at r turn none least is =
      wish_then r (IsClaimAt s d p) (IsFirstInTurn s d now)
      (λ wish at. (turn, p, none, least, at)) is
