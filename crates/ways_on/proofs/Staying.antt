-- What a message doesn't change at the node that receives it: the host of its open claim, and what
-- it holds.
use Rattle.std.proofs.Common.{◌≡◌, ◌<◌, ℕ, true, List, length, Option, Some, slice_get, refl, sym, ap, subst, ◌∙◌, ⊎_elim}
use Rattle.std.proofs.lemmas.Bool.{cases_eq}
use Rattle.claims.specs.Member.{Building, Closed, Facts, Gathering, Member, Stage, Voting}
use Rattle.ballots.specs.declared.message.Body.{Body}
use Rattle.protocol.specs.Answers.{claim_then}
use Rattle.protocol.specs.InTheAgreement.{progress_of}
use Rattle.protocol.specs.State.{OpenClaim, Value, facts_at}
use Rattle.protocol.specs.Step.{host_in}
use Rattle.engine.specs.Division.{Division}
use Rattle.ways_on.proofs.Counting.{its_unit}
use Rattle.ways_on.proofs.Deciding.{stage_here}
use Rattle.ways_on.proofs.Hearing.{HeardBy}
use Rattle.ways_on.proofs.Reached.{IsReached}
use Rattle.wire.specs.declared.datagram.Piece.{Piece}
use Rattle.world.specs.Sent.{message}
use Rattle.world.specs.World.{IsMade, World, WorldNode, member_at}
use Rattle.one_list.specs.Matches.{name_of}

-- A claim is open at this stage.
abbrev pub IsOpenStage : Stage Value → Type 0
IsOpenStage Closed = ⊥
IsOpenStage (Gathering c S k) = Prim.Unit {0}
IsOpenStage (Building c) = Prim.Unit {0}
IsOpenStage (Voting b S) = Prim.Unit {0}

-- if a claim is open at that stage, it is for this host
pub host_of : (old : Option OpenClaim) (u host n : ℕ) (stage : Stage Value) → IsOpenStage stage
    → host_in (claim_then old u host (progress_of n stage)) ≡ host
host_of old u host n Closed is = absurd is
host_of old u host n (Gathering c S k) is = refl
host_of old u host n (Building c) is = refl
host_of old u host n (Voting b S) is = refl

module _ (division : Division) (weights : List ℕ) (made : IsMade division weights) (w : World)
    (r : IsReached division weights made w) (k : ℕ) (x : WorldNode)
    (stands : slice_get w.nodes k ≡ Some x) (up : x.up ≡ true)
    (u : ℕ) (within : u < length w.division.units) (from : ℕ) (body : Body Value)
    (kept : List Piece) (then : World)
    (b : HeardBy division weights made w r k x stands up (message w (name_of w u) from body) kept
    then) where
  unit_is : b.answers.unit ≡ u
  unit_is = its_unit division weights made w r k x stands up u within from body kept then b

  -- the host of an open claim for the unit stays the same
  pub host_stays : IsOpenStage (stage_here b.node u) → host_in b.node.claim ≡ host_in x.claim
  host_stays is_open =
      ap host_in (b.claim_is ∙ ap (λ a. a.claim) b.answer_is)
      ∙ host_of x.claim b.answers.unit (host_in x.claim) (length w.weights) _
      (subst IsOpenStage (ap (λ (m : Member Value). m.stage) b.here)
      (subst (λ q. IsOpenStage (stage_here b.node q)) (sym unit_is) is_open))

  -- what it holds stays the same, if that is so for the unit
  pub held_stays : (facts_at (member_at w k b.node) u).held ≡ (facts_at (member_at w k x) u).held
      → (q : ℕ)
      → (facts_at (member_at w k b.node) q).held ≡ (facts_at (member_at w k x) q).held
  held_stays here q = ⊎_elim
      (λ same. subst (λ j. (facts_at (member_at w k b.node) j).held
      ≡ (facts_at (member_at w k x) j).held) (sym same) here)
      (λ other. ap (λ (f : Facts Value). f.held) (b.there q (λ e. other (e ∙ unit_is))))
      (cases_eq q u)
