-- What a node does on its own initiative.
use Rattle.std.proofs.Common.{◌≡◌, ◌<◌, ℕ, Option, None, Some, Err, length, refl, sym, ap, subst, ◌∙◌, inl, inr}
use Rattle.std.specs.Prelude.{◌⊎◌, option_and_then}
use Rattle.turn_rules.specs.Own.{Barred, IsLeastFree, IsOwn, IsOwnBy, claim_of, renewed}
use Rattle.node.specs.State.{LoggedNode}
use Rattle.node.specs.Step.{Does, Takes}
use Rattle.node.specs.declared.fault.NodeFault.{NodeFault}
use Rattle.node.specs.declared.fault.NodeFault.TheVariants as fault
use Rattle.ballots.specs.Support.{Support}
use Rattle.ballots.specs.declared.claimer.Claimer.TheVariants as claimers
use Rattle.claims.specs.declared.claim.Claim.{Claim}
use Rattle.member.specs.OpenClaims.{open_of, progress_of_claimer}
use Rattle.member.specs.declared.open_claim.OpenClaim as code
use Rattle.turn_rules.specs.Scheduled.{goes_on, going_on}
use Rattle.protocol.specs.Member.{IsMember}
use Rattle.protocol.specs.State.{OpenClaim, State, Value}
use Rattle.protocol.specs.declared.input.Input.{Input}
use Rattle.turn_rules.specs.CausedSteps.{IsNoPart}

-- an open claim is for a unit
pub claim_within : (s : State) → IsMember s → (o : OpenClaim) → Some o ≡ s.claim
    → o.unit < length s.division.units
claim_within s is o e = (is.claim o (sym e)).unit

-- it claims the least free package
pub claims_least : (s : State) → None ≡ s.claim → (above : Option ℕ) (barred : Barred) (p : ℕ)
    → IsLeastFree s barred (Some p) → (input : Input) → input ≡ claim_of s p
    → IsOwn s above barred (Some input)
claims_least s none above barred p least input is =
    subst (λ o. IsOwnBy s o above barred (Some input)) none
    (Some p, least, ap (λ i. Some i) is)

-- it renews its open claim, if it has one
pub renews_some : (s : State) (o : OpenClaim) → Some o ≡ s.claim → (above : Option ℕ)
    (barred : Barred) → (input : Input) × IsOwn s above barred (Some input)
renews_some s o is above barred = (
  renewed s o above,
  subst (λ x. IsOwnBy s x above barred (Some (renewed s o above))) is refl,
)

-- it claims something if something is free
pub claims_some : (s : State) → None ≡ s.claim → (above : Option ℕ) (barred : Barred) (p : ℕ)
    → IsLeastFree s barred (Some p) → (input : Input) × IsOwn s above barred (Some input)
claims_some s none above barred p least =
    (claim_of s p, claims_least s none above barred p least (claim_of s p) refl)

-- an equal member does something, too
pub some_of : (s m : State) → m ≡ s → (above : Option ℕ) (barred : Barred)
    → ((input : Input) × IsOwn m above barred (Some input))
    → (input : Input) × IsOwn s above barred (Some input)
some_of s m same above barred (input, is) =
    (input, subst (λ x. IsOwn x above barred (Some input)) same is)

-- an equal member does the same
pub own_of : (s m : State) → m ≡ s → (above : Option ℕ) (barred : Barred) (own : Option Input)
    (input : Input) → own ≡ Some input → IsOwn m above barred own
    → IsOwn s above barred (Some input)
own_of s m same above barred own input some is =
    subst (λ x. IsOwn x above barred (Some input)) same
    (subst (IsOwn m above barred) some is)

-- memory runs out, and there is something that it would have done
pub no_memory : {D : Type 0} (n : LoggedNode D) (above : Option ℕ) (barred : Barred) (f : NodeFault)
    → f ≡ fault.Memory → ((input : Input) × IsOwn n.node.member above barred (Some input))
    → (own : Option Input) × IsOwn n.node.member above barred own × IsNoPart n own f
no_memory n above barred f memory (input, is) = (Some input, is, (input, refl, inl memory))

-- a claim that waits for votes is renewed or nudged
pub goes_on_voting : (s : State) (o : code.OpenClaim) → Some (open_of o) ≡ s.claim → (c : Claim)
    (v : Value) (t : Support) → o.claimer ≡ claimers.Voting c v t → (above : Option ℕ)
    → (input : Input) × (going_on above s ≡ Some input)
goes_on_voting s o is c v t voting above = (
  renewed s (open_of o) above,
  subst (λ x. option_and_then (λ y. goes_on s y y.progress above) x
      ≡ Some (renewed s (open_of o) above)) is
      (ap (λ x. goes_on s (open_of o) (progress_of_claimer x) above) voting),
)

-- what it does is refused
pub no_part : {D : Type 0} (n m : LoggedNode D) → m ≡ n → (input : Input) (f g : NodeFault)
    → f ≡ g → (g ≡ fault.Memory) ⊎ Takes n.node (Does input) (Err g)
    → IsNoPart m (Some input) f
no_part n m same input f g told (inl memory) = (input, refl, inl (told ∙ memory))
no_part n m same input f g told (inr takes) = (
  input,
  refl,
  inr (subst (λ x. Takes x.node (Does input) (Err f)) (sym same)
      (subst (λ h. Takes n.node (Does input) (Err h)) (sym told) takes)),
)
