-- What a node of a world knows can be encoded, and names members of the world.
use Rattle.std.proofs.Common.{◌≡◌, ◌<◌, ◌==◌, ℕ, true, false, not, nat_lt, Bool, List, [], ◌∷◌, length, map, filter, reverse, Option, Some, None, Ok, option_map, slice_get, refl, sym, subst, inl, inr, ltb-true, if◌then◌else◌}
use Rattle.std.specs.Prelude.{All}
use Rattle.std.specs.Option.{ForSome}
use Rattle.std.specs.List.{list_all}
use Rattle.std.specs.Str.{bytes_eq}
use Rattle.std.proofs.lemmas.Bool.{and_parts, cond_both}
use Rattle.std.proofs.lemmas.List.Elements.{All-contains, All-head, All-nil, All-cons, All-weaker}
use Rattle.claims.specs.Member as theory
use Rattle.claims.specs.Member.{Facts, facts_of}
use Rattle.claims.specs.Nodes as nodes
use Rattle.claims.specs.Votes.{Has}
use Rattle.ballots.specs.InTheAgreement.{note_of}
use Rattle.ballots.specs.declared.message.Fact.{Fact}
use Rattle.ballots.specs.declared.message.Fact.TheVariants as fact
use Rattle.ballots.specs.declared.message.Message.{Message}
use Rattle.ballots.specs.declared.message.Note.{Note}
use Rattle.node.specs.Ranges.{IsInRange}
use Rattle.node.proofs.ranges.Restored.{restored_written}
use Rattle.protocol.specs.Answers.{Answer}
use Rattle.protocol.specs.InTheAgreement.{claim_of, stage_of, view}
use Rattle.protocol.specs.Member.{IsMember, IsOpen, claim_in}
use Rattle.protocol.specs.State.{Building, Gathering, OpenClaim, Progress, State, Value, Voting}
use Rattle.protocol.specs.Step.{header_refusal, heard, members_of}
use Rattle.protocol.specs.declared.refusal.Refusal.{Refusal}
use Rattle.protocol.specs.declared.refusal.Refusal.TheVariants as refusals
use Rattle.protocol.proofs.Answering.{not_refused}
use Rattle.protocol.proofs.Restored.{notes_restore}
use Rattle.engine.specs.Division.{number_named, unit_at}
use Rattle.wire.specs.Messages.{IsNote}
use Rattle.world.specs.World.{IsMade, World, WorldNode, member_at}
use Rattle.one_list.specs.Local.{AreLocal, IsLocal, IsOfUnit, members_noted}
use Rattle.one_list.specs.Matches.{node_of}
use Rattle.one_list.proofs.nodes.MemberLogs.{filtered_has, has_contains, mapped_has, reversed_has}
use Rattle.one_list.proofs.nodes.NodesAsMembers.{get_within}
use Rattle.one_list.proofs.nodes.ClaimsNamed.{AreNamed, IsOwnStage, Notes, restored_named}

-- ---- what is known

-- a fact that names members does so in the theory
fact_named : (n : ℕ) (f : Fact Value) → All (λ k. k < n) (members_noted f) → Notes n (note_of f)
fact_named n (fact.Opened round) are = tt
fact_named n (fact.Promised c) are = All-head (λ k. k < n) c.member [] are
fact_named n (fact.Voted c v) are = All-head (λ k. k < n) c.member [] are
fact_named n (fact.Held v) are = tt

-- what holds of each element of a list holds of all
all_has : {X : Type 0} (P : X → Type 0) (xs : List X) → ((x : X) → Has xs x → P x) → All P xs
all_has P [] each = All-nil P
all_has P (x ∷ xs) each = All-cons P x xs (each x (inl refl)) (all_has P xs (λ y h. each y (inr h)))

module _ (w : World) (made : IsMade w.division w.weights) (local : AreLocal w) (k : ℕ)
    (x : WorldNode) (stands : slice_get w.nodes k ≡ Some x) where
  here : IsLocal w k x
  here = local.each k x stands

  -- the node is one of the members
  pub is_one : k < length w.weights
  is_one = subst (λ n. k < n) local.one_for_each (get_within w.nodes k x stands)

  on_units : All (λ (n : Note Value). (u : ℕ) × (number_named w.division n.path ≡ Some u)) x.notes
  on_units = All-weaker (IsOfUnit w) (λ (n : Note Value). (u : ℕ)
      × (number_named w.division n.path ≡ Some u)) (λ n o. (o.unit, o.of_unit)) x.notes here.notes

  -- everything that it knows can be encoded
  pub in_range : IsInRange (member_at w k x)
  in_range =
      let r = restored_written w.division w.weights k x.notes made.divided made.weigh is_one
      on_units
      (All-weaker (IsOfUnit w) IsNote (λ n o. o.note) x.notes here.notes) in record {
        facts = λ u lt. r.facts u lt;
        claim = λ o e. (here.claim o e).progress;
      }

  -- everything that it knows names members
  pub known_named : (u : ℕ) → u < length w.division.units
      → AreNamed (length w.weights) (facts_of (nodes.view (node_of w k x) u))
  known_named u lt =
      let noted = map (λ (n : Note Value). note_of n.fact)
      (filter (λ n. bytes_eq n.path (unit_at w.division u).name) x.notes) in
      let are = restored_named (length w.weights) (reverse noted)
      (all_has (Notes (length w.weights)) (reverse noted) (λ note h.
      let a = mapped_has (λ (n : Note Value). note_of n.fact)
      (filter (λ n. bytes_eq n.path (unit_at w.division u).name) x.notes) note
      (reversed_has noted note h) in
      let b = filtered_has (λ (n : Note Value). bytes_eq n.path (unit_at w.division u).name) x.notes
      a.0 a.1 in
      let o = All-contains (IsOfUnit w) x.notes a.0 here.notes (has_contains x.notes a.0 b.0) in
      subst (Notes (length w.weights)) a.2 (fact_named (length w.weights) (a.0).fact
      o.claimers))) in
      let same = (notes_restore w.division w.weights k x.notes made.divided made.weigh is_one
      on_units).facts u lt in
      let its = subst (AreNamed (length w.weights)) (sym same) are in
      record { promised = its.promised; voted = its.voted }

-- ---- its open claim

own_progress : (me : ℕ) (p : Progress) → (claim_in p).member ≡ me → IsOwnStage me (stage_of p)
own_progress me (Gathering c joined k) e = e
own_progress me (Building c) e = e
own_progress me (Voting b joined) e = e

-- the open claim is the member's own
pub own_stage : (s : State) (u : ℕ) → IsMember s → IsOwnStage s.me (view s u).stage
own_stage s u is = by s.claim is.claim
  where
    by : (o : Option OpenClaim) → ForSome o (IsOpen s)
        → IsOwnStage s.me (nodes.stage_at (option_map claim_of o) u)
    by None are = tt
    by (Some o) are = cond_both (u == o.unit) (stage_of o.progress) theory.Closed (IsOwnStage s.me)
        (λ t. own_progress s.me o.progress (are o refl).own) (λ f. tt)

-- ---- what arrives

first_fails : (b : Bool) (f : Refusal) (rest : Option Refusal) → (if b then Some f else rest) ≡ None
    → (b ≡ false) × (rest ≡ None)
first_fails true f rest e = absurd (let no : Some f ≡ None = e in cc)
first_fails false f rest e = (refl, e)

not_not : (b : Bool) → not b ≡ false → b ≡ true
not_not true e = refl
not_not false e = absurd (let no : true ≡ false = e in cc)

below_all : (n : ℕ) (ks : List ℕ) → list_all (λ k. nat_lt k n) ks ≡ true → All (λ k. k < n) ks
below_all n [] e = All-nil (λ k. k < n)
below_all n (k ∷ ks) e =
    let p = and_parts (nat_lt k n) (list_all (λ k. nat_lt k n) ks) e in All-cons (λ k. k < n) k ks
    (ltb-true k n p.0) (below_all n ks p.1)

-- a message that is answered names members
pub heard_names : (s : State) (m : Message Value) (a : Answer) → heard s m ≡ Ok a
    → All (λ k. k < length s.weights) (members_of m.body)
heard_names s m a e =
    let tested =
    (not_refused (header_refusal s m.tree (m.sender ∷ members_of m.body) m.path) _ a e).0 in
    let later = (first_fails _ refusals.OtherTree _ tested).1 in
    let all = not_not _ (first_fails _ refusals.NotAMember _ later).0 in
    below_all (length s.weights) (members_of m.body)
    (and_parts (nat_lt m.sender (length s.weights)) _ all).1
