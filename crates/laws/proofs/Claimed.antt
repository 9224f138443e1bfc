-- In each reachable world, a unit for which a node has an open claim is queued there.
use Rattle.std.proofs.Common.{◌≡◌, ℕ, true, List, [], ◌∷◌, ◌++◌, length, Option, Some, None, Ok, append_assoc, append-nil, slice_get, refl, sym, ap, subst, ◌∙◌, ⊎_elim}
use Rattle.std.specs.Prelude.{is_some}
use Rattle.std.proofs.lemmas.List.Elements.{All-weaker}
use Rattle.claims.specs.Member.{Facts}
use Rattle.claims.proofs.Nodes.{get_set}
use Rattle.ballots.specs.declared.message.Note.{Note}
use Rattle.engine.specs.Division.{Division, unit_at}
use Rattle.engine.specs.Letters.{IsInstallable}
use Rattle.protocol.specs.Events.{Event, node_of}
use Rattle.protocol.specs.declared.event.Left.{Left}
use Rattle.protocol.specs.declared.event.Left.TheVariants as left
use Rattle.faults.specs.Bytes.{Text}
use Rattle.node.specs.Arrival.{Arrival, Strange, Waits, Whole, arrival_of}
use Rattle.node.specs.Step.{Asked, Comes, Does, Taken, Takes, nothing, step_on}
use Rattle.node.specs.Step as steps
use Rattle.package_record.specs.Content.{Content}
use Rattle.protocol.specs.Answers.{after}
use Rattle.protocol.specs.Member.{IsMember}
use Rattle.protocol.specs.State.{OpenClaim, State, Value, holds_package}
use Rattle.protocol.specs.Step as members
use Rattle.protocol.specs.declared.input.Input.TheVariants as inputs
use Rattle.protocol.proofs.Known.{package_stays_held}
use Rattle.wire.specs.Reading.{datagram_of}
use Rattle.world.specs.Happening.{Happens, Leads, left_node}
use Rattle.one_list.specs.Local.{AreLocal}
use Rattle.one_list.specs.MatchingLaws.{EachRunIsActs}
use Rattle.world.specs.Sent.{with_sends}
use Rattle.world.specs.World.{IsMade, World, WorldNode, down_node, member_at, node_at, restarted_node, start, up_node, with_node}
use Rattle.one_list.proofs.nodes.StepsInTheory.{never_ok, ok, ok_same, taken_is}
use Rattle.one_list.proofs.acts.StopsInDeliveries.{heard_is}
use Rattle.world.proofs.Growth.{by_kind, leads_later}
use Rattle.world.proofs.EventParts.{leads_together}
use Rattle.one_list.proofs.nodes.NodesAsMembers.{facts_more, node_is_member}
use Rattle.one_list.proofs.clauses.RunInvariants.{all_fresh}
use Rattle.laws.specs.Missing.{ClaimedIsQueued}
use Rattle.laws.proofs.Claiming.{claim_that_is_left}
use Rattle.laws.proofs.Showing.{IsReady, held_by, held_from, held_parts, queued_by_need, ready_by_letter, stays_installable}

-- Everything that nodes' claims need is installable at these nodes.
abbrev pub AreReady : World → Type 0
AreReady w =
    (k : ℕ) (x : WorldNode) (o : OpenClaim) → slice_get w.nodes k ≡ Some x → x.claim ≡ Some o
    → IsReady (member_at w k x) o.unit

-- ---- a step

module _ (w : World) (k : ℕ) (x : WorldNode) (is : IsMember (member_at w k x))
    (stood : (o : OpenClaim) → x.claim ≡ Some o → IsReady (member_at w k x) o.unit) where
  abbrev s : State
  s = member_at w k x

  -- what the claim needs that a step leaves open was installable before the step
  step_leaves : (asked : Asked) (t : Taken) → Takes (node_at w k x) asked (Ok t)
      → (p : OpenClaim) → t.answer.claim ≡ Some p → IsReady s p.unit
  step_leaves (Does input) t takes =
      claim_that_is_left s is (IsReady s) (λ u letter lt. ready_by_letter s u is lt letter) stood
      takes.letter input t.answer takes.shown
      (taken_is x.pieces (members.answer s takes.letter input) t takes.right_is)
  step_leaves (Comes text) t takes =
      by (arrival_of s x.pieces (datagram_of text)) takes.right_is
    where
      by : (a : Arrival) → ok t ≡ step_on s a
          → (p : OpenClaim) → t.answer.claim ≡ Some p → IsReady s p.unit
      by (Strange f pieces) e = absurd (never_ok t _ e)
      by (Waits pieces) e = λ p left. stood p
          (ap (λ (z : Taken). z.answer.claim)
          (sym (ok_same t (record { answer = nothing s; pieces = pieces }) e)) ∙ left)
      by (Whole m pieces) e =
          claim_that_is_left s is (IsReady s) (λ u letter lt. ready_by_letter s u is lt letter)
          stood takes.letter (inputs.Message m) t.answer tt
          (heard_is pieces (members.heard s m) t e)

  -- the node after the step
  abbrev then : Taken → WorldNode
  then t = up_node (steps.after (node_at w k x) t)

  left_member : (t : Taken) → after s t.answer ≡ member_at w k (then t)
  left_member t = ap (λ (fs : List (Facts Value)).
      record (member_at w k x) { facts = fs; claim = t.answer.claim })
      (sym (facts_more w k x (then t) t.answer.note refl))

  -- what was held is still held
  held_on : (t : Taken) (q : ℕ) → held_by s q ≡ true → held_by (member_at w k (then t)) q ≡ true
  held_on t q held =
      let parts = held_parts s q held in
      held_from (member_at w k (then t)) q parts.0
      (subst (λ z. holds_package z q ≡ true) (left_member t)
      (package_stays_held s t.answer q parts.1))

  -- so it is installable after the step
  ready_then : (asked : Asked) (t : Taken) → Takes (node_at w k x) asked (Ok t)
      → (p : OpenClaim) → (then t).claim ≡ Some p → IsReady (member_at w k (then t)) p.unit
  ready_then asked t takes p left =
      All-weaker (IsInstallable w.division.tree (held_by s))
      (IsInstallable w.division.tree (held_by (member_at w k (then t))))
      (stays_installable w.division.tree (held_by s) (held_by (member_at w k (then t)))
      (held_on t))
      (unit_at w.division p.unit).build (step_leaves asked t takes p left)

-- ---- an event

-- one node is replaced by another whose claim is ready
one_other : (w : World) (k : ℕ) (y : WorldNode) (sent : List Text) (list : List Content)
    → AreReady w
    → ((o : OpenClaim) → y.claim ≡ Some o → IsReady (member_at w k y) o.unit)
    → AreReady (record (with_node w k y) { sent = sent; agreed = list })
one_other w k y sent list ready mine j z o stands claimed = ⊎_elim
    (λ h. subst (λ n. IsReady (member_at w n z) o.unit) (sym h.0)
    (subst (λ n. IsReady (member_at w k n) o.unit) (sym h.1)
    (mine o (ap (λ (n : WorldNode). n.claim) (sym h.1) ∙ claimed))))
    (λ h. ready j z o h.1 claimed)
    (get_set w.nodes k j y z stands)

-- one node is replaced by another that has no claim
one_without : (w v : World) (k : ℕ) (y : WorldNode) → y.claim ≡ None → v ≡ with_node w k y
    → AreReady w → AreReady v
one_without w v k y none leaves ready = subst AreReady (sym leaves)
    (one_other w k y w.sent w.agreed ready
    (λ o e. absurd (let no : None ≡ Some o = sym none ∙ e in cc)))

no_claim_left : (l : Left) (notes : List (Note Value)) (noted : Option (Note Value))
    → (left_node l notes noted).claim ≡ None
no_claim_left left.None notes noted = refl
no_claim_left (left.Torn bytes) notes noted = refl
no_claim_left left.Whole notes noted = refl

-- the effect of each event
abbrev Leaves : World → World → Type 0
Leaves w v = IsMade w.division w.weights → AreLocal w → AreReady w → AreReady v

event_leaves : (w v : World) (e : Event) → Happens w e v → Leaves w v
event_leaves = by_kind Leaves
    (λ w v e s made local ready.
    subst AreReady (sym s.leaves)
    (one_other w (node_of e) (up_node (steps.after (node_at w (node_of e) s.node) s.taken))
    (with_sends w.sent s.taken.answer.sends) v.agreed ready
    (ready_then w (node_of e) s.node
    (node_is_member w made local (node_of e) s.node s.acts.is_up.stands)
    (λ o claimed. ready (node_of e) s.node o s.acts.is_up.stands claimed)
    s.acts.asked s.taken s.acts.takes)))
    (λ w v e l s made local ready. one_without w v (node_of e)
    (left_node l s.node.notes s.taken.answer.note)
    (no_claim_left l s.node.notes s.taken.answer.note) s.leaves ready)
    (λ w v n s made local ready. one_without w v n (down_node s.node.notes []) refl s.leaves ready)
    (λ w v n s made local ready. one_without w v n (restarted_node s.node.notes) refl s.leaves
    ready)

-- ---- along a run

-- What holds at the start, and is preserved by each event, holds of each reachable world.
module _ (division : Division) (weights : List ℕ) (P : List Event → World → Type 0)
    (step : (events : List Event) (w v : World) (e : Event)
    → Leads (start division weights) events w → Happens w e v
    → P events w → P (events ++ e ∷ []) v) where
  on : (before events : List Event) (w v : World) → Leads (start division weights) before w
      → P before w → Leads w events v → P (before ++ events) v
  on before [] w v led p l =
      subst (λ (es : List Event). P es v) (sym (append-nil before)) (subst (P before) (sym l) p)
  on before (e ∷ es) w v led p l =
      subst (λ (all : List Event). P all v) (append_assoc before (e ∷ []) es)
      (on (before ++ e ∷ []) es l.0 v
      (leads_together (start division weights) w l.0 before (e ∷ []) led (l.0, l.1, refl))
      (step before w l.0 e led l.1 p) l.2)

  pub wherever_reached : P [] (start division weights)
      → (events : List Event) (w : World) → Leads (start division weights) events w → P events w
  wherever_reached first events w led =
      on [] events (start division weights) w refl first led

module _ (runs : EachRunIsActs) (division : Division) (weights : List ℕ)
    (made : IsMade division weights) where
  -- what is fixed stays the same in each reachable world
  pub made_there : (events : List Event) (w : World) → Leads (start division weights) events w
      → IsMade w.division w.weights
  made_there events w led =
      let later = leads_later (start division weights) w events led in
      subst (λ (d : Division). IsMade d w.weights) (sym later.division)
      (subst (IsMade division) (sym later.weights) made)

  pub all_ready : (events : List Event) (w : World) → Leads (start division weights) events w
      → AreReady w
  all_ready = wherever_reached division weights (λ events w. AreReady w)
      (λ events w v e led h ready.
      event_leaves w v e h (made_there events w led) (runs division weights events w made led).3
      ready)
      (λ k x o stands claimed. absurd (let no : None ≡ Some o = ap (λ (n : WorldNode). n.claim)
      (all_fresh (length weights) k x stands) ∙ claimed in cc))

  -- So what is claimed is queued.
  pub claimed_is_queued : (events : List Event) (w : World)
      → Leads (start division weights) events w → ClaimedIsQueued w
  claimed_is_queued events w led k x o stands claimed =
      let local = (runs division weights events w made led).3 in
      let member = node_is_member w (made_there events w led) local k x stands in
      let its = member.claim o claimed in
      queued_by_need (member_at w k x) o.unit member its.unit (ap is_some its.not_held)
      (all_ready events w led k x o stands claimed)
