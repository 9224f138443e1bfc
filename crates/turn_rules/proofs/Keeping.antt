-- Updating and restoring the state between turns.
use Rattle.std.proofs.Common.{◌≡◌, ◌==◌, ◌++◌, ℕ, Bool, true, false, List, [], ◌∷◌, Option, None, Some, length, take, refl, ap, ◌∙◌, arith, if◌then◌else◌}
use Rattle.std.proofs.lemmas.List.{take_all, take_at}
use Rattle.std.specs.List.{list_any}
use Rattle.ballots.specs.InTheAgreement.{claim_of}
use Rattle.ballots.specs.declared.claimer.Claimer.{Claimer}
use Rattle.ballots.specs.declared.claimer.Claimer.TheVariants as claimers
use Rattle.turn_rules.specs.Pending.{Pending, after_input, has_failed, with_failed}
use Rattle.turn_rules.specs.PuttingBack.{before_of, put_back}
use Rattle.turn_rules.specs.declared.pending.Before.{Before}
use Rattle.member.specs.OpenClaims.{progress_of_claimer}
use Rattle.protocol.specs.Member.{claim_in}
use Rattle.protocol.specs.State.{OpenClaim, State, Value}
use Rattle.protocol.specs.declared.input.Input.{Input}
use Rattle.protocol.specs.declared.input.Input.TheVariants as inputs

-- the claim is that of the claimer
pub claim_is : (o : Claimer Value) → claim_in (progress_of_claimer o) ≡ claim_of o
claim_is (claimers.Gathering c t k) = refl
claim_is (claimers.Building c weights) = refl
claim_is (claimers.Voting c v t) = refl

-- a failed unit is noted once
pub failed_kept : (p : Pending) (u : ℕ) (keys : List ℕ)
    → keys ≡ (if list_any (λ v. u == v) p.failed then p.failed else p.failed ++ u ∷ [])
    → record p { failed = keys }
    ≡ (if has_failed p u then p else record p { failed = p.failed ++ u ∷ [] })
failed_kept p u keys e =
    ap (λ ks. record p { failed = ks }) e ∙ by (list_any (λ v. u == v) p.failed)
  where
    by : (b : Bool) → record p { failed = if b then p.failed else p.failed ++ u ∷ [] }
        ≡ (if b then p else record p { failed = p.failed ++ u ∷ [] })
    by true = refl
    by false = refl

-- ---- restored

all_stay : (xs : List ℕ) → take (length xs) xs ≡ xs
all_stay xs = take_all (length xs) xs (omega arith)

more_failed : (p : Pending) (claim : Option OpenClaim)
    → take (length p.failed) (with_failed p claim).failed ≡ p.failed
more_failed p None = all_stay p.failed
more_failed p (Some o) = by (has_failed p o.unit)
  where
    by : (b : Bool) → take (length p.failed)
        (if b then p else record p { failed = p.failed ++ o.unit ∷ [] }).failed ≡ p.failed
    by true = all_stay p.failed
    by false = take_at p.failed (o.unit ∷ []) (length p.failed) refl

only_more : (p : Pending) (k : ℕ) (s : State) (input : Input)
    → take (length p.failed) (after_input p k s input).failed ≡ p.failed
only_more p k s (inputs.Claim path host above) = all_stay p.failed
only_more p k s (inputs.Built path given) = all_stay p.failed
only_more p k s (inputs.Failed path) = more_failed p s.claim
only_more p k s inputs.Nudge = all_stay p.failed
only_more p k s (inputs.Ask path) = all_stay p.failed
only_more p k s (inputs.Message m) = all_stay p.failed

again : (p q : Pending) (before : Before) → before ≡ before_of p
    → take (length p.failed) q.failed ≡ p.failed → put_back q before ≡ p
again p q before is more =
    ap (put_back q) is ∙ ap (λ f. record { failed = f; above = p.above; next = p.next }) more

pub input_put_back : (p q : Pending) (k : ℕ) (s : State) (input : Input) (before : Before)
    → before ≡ before_of p → q ≡ after_input p k s input → put_back q before ≡ p
input_put_back p q k s input before is kept = again p q before is
    (ap (λ r. take (length p.failed) r.failed) kept ∙ only_more p k s input)

pub named_put_back : (p q : Pending) (above : List (Option ℕ)) (before : Before)
    → before ≡ before_of p → q ≡ record p { above = above } → put_back q before ≡ p
named_put_back p q above before is kept = again p q before is
    (ap (λ r. take (length p.failed) r.failed) kept ∙ all_stay p.failed)
