-- The world refuses what a node of the cluster refuses, and no node refuses what was sent.
use Rattle.std.proofs.Common.{◌≡◌, ◌≤◌, ℕ, true, false, List, Option, None, Some, Result, Ok, Err, length, refl, sym, ap, subst, ◌∙◌, arith, inr, true≢false, if◌then◌else◌}
use Rattle.std.specs.Prelude.{is_some}
use Rattle.cluster_turns.proofs.Eventful.{sent_is}
use Rattle.cluster_turns.specs.Choosing.{NoneIsForeign, RefusesAt}
use Rattle.cluster_turns.specs.Events.{event_of}
use Rattle.protocol.specs.Events.{Event}
use Rattle.faults.specs.Bytes.{Text}
use Rattle.one_list.proofs.uses.HostedNodes.{IsHosted, refuses_there}
use Rattle.one_list.proofs.clauses.OneListOfRuns.{each_run_is_acts}
use Rattle.one_list.proofs.clauses.RunInvariants.{none_is_foreign}
use Rattle.one_list.proofs.matching.LawfulMatch.{few_members}
use Rattle.node.specs.Arrival.{Arrival, Strange, Waits, Whole, arrival_of}
use Rattle.node.specs.State.{NodeState}
use Rattle.node.specs.Step.{Asked, Comes, Taken, Takes, heard, nothing, step_on}
use Rattle.node.specs.declared.fault.Foreign.{Foreign}
use Rattle.node.specs.declared.fault.Foreign.TheVariants as foreign
use Rattle.node.specs.declared.fault.NodeFault.{NodeFault}
use Rattle.node.specs.declared.fault.NodeFault.TheVariants as fault
use Rattle.package_record.proofs.BuildsRead.{build_is_read}
use Rattle.protocol.specs.Answers.{Answer}
use Rattle.protocol.specs.State.{State}
use Rattle.protocol.specs.Step as members
use Rattle.protocol.specs.declared.refusal.Refusal.{Refusal}
use Rattle.cluster_turns.proofs.EventOf.{IsEventOf, event_is}
use Rattle.cluster_turns.proofs.Standing.{hosted, led_there, made_there}
use Rattle.cluster_turns.specs.State.{ClusterState, IsWorldOf, taken}
use Rattle.wire.specs.Reading.{datagram_of}
use Rattle.wire.specs.declared.datagram.Piece.{Piece}
use Rattle.world.specs.Happening.{IsRefused}
use Rattle.world.specs.World.{World, up_node}
use Rattle.world.specs.declared.fault.WorldFault.TheVariants as worlds

pub some_of : {X : Type 0} (o : Option X) → is_some o ≡ true → (x : X) × (o ≡ Some x)
some_of None wrong = absurd (true≢false (sym wrong))
some_of (Some x) is = (x, refl)

never : (f : NodeFault) (t : Taken) → ◌≡◌ {A = Result Taken NodeFault} (Err f) (Ok t) → ⊥
never f t e = cc

faults_same : (f g : NodeFault) → ◌≡◌ {A = Result Taken NodeFault} (Err f) (Err g) → f ≡ g
faults_same f g e = cc

-- a node that is up refuses bytes only as foreign
heard_foreign : (pieces : List Piece) (r : Result Answer Refusal) (f : NodeFault)
    → Err f ≡ heard pieces r → (g : Foreign) × (f ≡ fault.Foreign g)
heard_foreign pieces (Ok a) f is = absurd (never f (record { answer = a; pieces = pieces }) is)
heard_foreign pieces (Err r) f is =
    (foreign.Message r, faults_same f (fault.Foreign (foreign.Message r)) is)

step_foreign : (s : State) (a : Arrival) (f : NodeFault) → Err f ≡ step_on s a
    → (g : Foreign) × (f ≡ fault.Foreign g)
step_foreign s (Strange g pieces) f is =
    (g, faults_same f (fault.Foreign g) is)
step_foreign s (Waits pieces) f is =
    absurd (never f (record { answer = nothing s; pieces = pieces }) is)
step_foreign s (Whole m pieces) f is = heard_foreign pieces (members.heard s m) f is

comes_foreign : (n : NodeState) (text : Text) (f : NodeFault) → n.stopped ≡ false
    → Takes n (Comes text) (Err f) → (g : Foreign) × (f ≡ fault.Foreign g)
comes_foreign n text f up takes =
    step_foreign n.member (arrival_of n.member n.pieces (datagram_of text)) f
    (takes.right_is ∙ ap (λ b. if b then Err fault.Stopped
    else step_on n.member (arrival_of n.member n.pieces (datagram_of text))) up)

module _ {D P : Type 0} (c : ClusterState D P) (w : World) (is : IsWorldOf c w) where
  pub few_nodes : length c.nodes ≡ length c.weights → length c.nodes ≤ 9
  few_nodes count = omega (arith, few_members c.weights is.made.weigh, count)

  -- what a node refuses, the world refuses
  pub refused_so : (k : ℕ) (asked : Asked) (e : Event) → event_of c.sent (k, asked) ≡ Some e
      → (f : NodeFault) → RefusesAt c.nodes k asked f → IsRefused w e (worlds.Node f)
  refused_so k asked e known f refuses =
      let event : IsEventOf c.sent k asked e = event_is c.sent k asked e known in
      let there : IsHosted w k refuses.node.node =
      hosted c w is k refuses.node refuses.stands refuses.up in
      inr (
        event.passes w (record {
          node = up_node refuses.node.node;
          stands = there.stands;
          up = refl;
          sent_is = is.sent;
        }),
        refuses_there w e refuses.node.node
            (subst (λ j. IsHosted w j refuses.node.node) (sym event.of_node) there)
            asked (event.asks w is.sent) f refuses.refuses,
      )

  -- no node refuses what was sent
  pub none_foreign : NoneIsForeign c.nodes c.sent
  none_foreign k text f among refuses =
      let e = some_of (event_of c.sent (k, Comes text)) (sent_is c.sent k text among) in
      let g = comes_foreign refuses.node.node text f refuses.up refuses.refuses in
      let there : IsRefused w e.0 (worlds.Node (fault.Foreign g.0)) =
      subst (λ x. IsRefused w e.0 (worlds.Node x)) g.1
      (refused_so k (Comes text) e.0 e.1 f refuses) in
      none_is_foreign build_is_read each_run_is_acts w.division w.weights (taken c) w e.0 g.0
      (made_there c w is) (led_there c w is) there
