-- How a change affects the open claim.
use Rattle.std.proofs.Common.{◌≡◌, ℕ, true, false, List, Some, refl, ap}
use Rattle.std.proofs.Common.{subst, option_map}
use Rattle.std.specs.Prelude.{unwrap_or}
use Rattle.std.specs.Option.{ForSome}
use Rattle.ballots.specs.InTheAgreement.{claimer_then}
use Rattle.ballots.specs.declared.claimer.Claimer.{Claimer}
use Rattle.ballots.specs.declared.claimer.Claimer.TheVariants as claimers
use Rattle.ballots.specs.declared.claimer.ClaimerChange.{ClaimerChange}
use Rattle.ballots.specs.declared.claimer.ClaimerChange.TheVariants as change
use Rattle.protocol.specs.State.{Value}
use Rattle.member.specs.OpenClaims.{IsWeighedBy, open_of, progress_of_claimer}
use Rattle.member.specs.Prepared.{IsCountWeighedBy, changed, counted}
use Rattle.member.specs.declared.open_claim.OpenClaim.{OpenClaim}
use Rattle.member.specs.declared.step.ClaimChange.TheVariants.{Counts}

-- the count of the code is that of the claimer
counted_then : (o : Claimer Value) (ch : ClaimerChange Value) → (ch ≡ change.Ends → ⊥)
    → counted ch (progress_of_claimer o) ≡ Some (progress_of_claimer (claimer_then o ch))
counted_then o change.Stays goes_on = refl
counted_then (claimers.Gathering c s k) (change.Joins t report) goes_on = refl
counted_then (claimers.Building c ws) (change.Joins t report) goes_on = refl
counted_then (claimers.Voting c v s) (change.Joins t report) goes_on = refl
counted_then (claimers.Gathering c s k) change.Builds goes_on = refl
counted_then (claimers.Building c ws) change.Builds goes_on = refl
counted_then (claimers.Voting c v s) change.Builds goes_on = refl
counted_then (claimers.Gathering c s k) (change.Proposes v t) goes_on = refl
counted_then (claimers.Building c ws) (change.Proposes v t) goes_on = refl
counted_then (claimers.Voting c w s) (change.Proposes v t) goes_on = refl
counted_then o change.Ends goes_on = absurd (goes_on refl)

pub changed_then : (o : OpenClaim) (ch : ClaimerChange Value) → (ch ≡ change.Ends → ⊥)
    → changed (Counts ch) (Some (open_of o))
    ≡ Some (open_of (record o { claimer = claimer_then o.claimer ch }))
changed_then o ch goes_on =
    ap (option_map (λ progress. record (open_of o) { progress = progress }))
    (counted_then o.claimer ch goes_on)

-- and the weights stay
pub weighed_then : (weights : List ℕ) (o : Claimer Value) (ch : ClaimerChange Value)
    → IsWeighedBy weights o → IsCountWeighedBy weights ch (progress_of_claimer o)
    → IsWeighedBy weights (claimer_then o ch)
weighed_then weights o change.Stays was is = was
weighed_then weights (claimers.Gathering c s k) (change.Joins t report) was is =
    record { same = is.same; within = is.within }
weighed_then weights (claimers.Building c ws) (change.Joins t report) was is = was
weighed_then weights (claimers.Voting c v s) (change.Joins t report) was is =
    record { same = is.same; within = is.within }
weighed_then weights (claimers.Gathering c s k) change.Builds was is =
    record { same = was.same; within = λ k e. absurd (let no : false ≡ true = e in cc) }
weighed_then weights (claimers.Building c ws) change.Builds was is = was
weighed_then weights (claimers.Voting c v s) change.Builds was is =
    record { same = was.same; within = λ k e. absurd (let no : false ≡ true = e in cc) }
weighed_then weights (claimers.Gathering c s k) (change.Proposes v t) was is =
    record { same = is.same; within = is.within }
weighed_then weights (claimers.Building c ws) (change.Proposes v t) was is =
    record { same = is.same; within = is.within }
weighed_then weights (claimers.Voting c w s) (change.Proposes v t) was is =
    record { same = is.same; within = is.within }
weighed_then weights o change.Ends was is = was

-- a property of the claim holds of the claim as an option
pub of_some : {X : Type 0} (P : X → Type 0) (x : X) → P x → ForSome (Some x) P
of_some P x holds other e = subst P (ap (λ o. unwrap_or o x) e) holds
