-- A node in a world, over any disk: its steps are the world's, and what it refuses is refused
-- there.
use Rattle.std.proofs.Common.{◌≡◌, ◌≢◌, ◌<◌, ◌+◌, ℕ, zero, suc, true, false, List, [], ◌∷◌, Option, None, Some, Result, Ok, Err, slice_get, slice_set, refl, sym, ap, subst, ◌∙◌, arith, inl, inr}
use Rattle.ballots.specs.declared.message.Note.{Note}
use Rattle.protocol.specs.Events.{Event, is_step, node_of}
use Rattle.protocol.specs.declared.event.Left.{Left}
use Rattle.protocol.specs.declared.event.Left.TheVariants as left
use Rattle.node.specs.Calls.{left_by}
use Rattle.node.specs.OnLog.{IsFull, LacksRoom, identity, identity_of, texts_of}
use Rattle.node.specs.State.{LoggedNode, NodeState}
use Rattle.node.specs.Step.{Asked, IsAsked, Taken, Takes, after}
use Rattle.node.specs.declared.fault.NodeFault.{NodeFault}
use Rattle.node.specs.declared.fault.NodeFault.TheVariants as fault
use Rattle.package_record.proofs.BuildsRead.{build_is_read}
use Rattle.package_record.specs.Content.{Content}
use Rattle.protocol.specs.State.{Value}
use Rattle.stable_record.specs.Log.{gate_place}
use Rattle.stable_record.specs.declared.log_fault.LogFault.TheVariants as log
use Rattle.world.specs.Happening.{Acts, Asks, HasRoomFor, IsRefusedByNode, IsUp, Leads, Steps, StopsIn, fault_before, left_node, leaves_note, stepped}
use Rattle.world.specs.Lists.{IsListAfter}
use Rattle.world.specs.Sent.{with_sends}
use Rattle.world.specs.World.{IsMade, World, WorldNode, node_at, start, up_node, with_node}
use Rattle.world.specs.declared.fault.WorldFault.TheVariants as worlds
use Rattle.one_list.proofs.nodes.NodeSteps.{IsByStep, by_step}
use Rattle.one_list.proofs.clauses.OneListOfRuns.{each_has_list, each_run_is_acts}
use Rattle.one_list.proofs.clauses.RunInvariants.{none_is_foreign}

-- Node k of the world is this one, and it is up.
pub record IsHosted (w : World) (k : ℕ) (n : NodeState) : Type 0 where
  pub stands : slice_get w.nodes k ≡ Some (up_node n)
  pub is : n ≡ node_at w k (up_node n)

-- ---- indexes

-- the element put at an index is there
pub set_there : {X : Type 0} (xs : List X) (k : ℕ) (x y : X) → slice_get xs k ≡ Some x
    → slice_get (slice_set xs k y) k ≡ Some y
set_there [] k x y e = absurd (let wrong : None ≡ Some x = e in cc)
set_there (z ∷ zs) zero x y e = refl
set_there (z ∷ zs) (suc k) x y e = set_there zs k x y e

-- all other elements stay
pub set_elsewhere : {X : Type 0} (xs : List X) (k j : ℕ) (y : X) → (j ≡ k → ⊥)
    → slice_get (slice_set xs k y) j ≡ slice_get xs j
set_elsewhere [] k j y other = refl
set_elsewhere (z ∷ zs) zero zero y other = absurd (other refl)
set_elsewhere (z ∷ zs) zero (suc j) y other = refl
set_elsewhere (z ∷ zs) (suc k) zero y other = refl
set_elsewhere (z ∷ zs) (suc k) (suc j) y other = set_elsewhere zs k j y (λ e. other (ap suc e))

-- ---- room

-- If the log ends after the node's notes, it lacks room exactly when the notes say so.
module _ {D : Type 0} (n : LoggedNode D)
    (end : n.log.end ≡ gate_place (identity_of n.node.member) (texts_of n.node.notes)) where
  pub lack_of_full : (o : Option (Note Value)) → IsFull n.node o → LacksRoom n.log o
  lack_of_full None full = full
  lack_of_full (Some note) full = omega (arith, full, end)

  pub full_of_lack : (o : Option (Note Value)) → LacksRoom n.log o → IsFull n.node o
  full_of_lack None lacks = lacks
  full_of_lack (Some note) lacks = omega (arith, lacks, end)

-- ---- a node in its world

module _ (w : World) (k : ℕ) (n : NodeState) (is : n ≡ node_at w k (up_node n)) where
  -- it is not stopped
  pub runs : n.stopped ≡ false
  runs = ap (λ (x : NodeState). x.stopped) is

  -- its log is the member's
  pub whose : identity_of n.member ≡ identity w.division.tree w.weights k
  whose = ap (λ (x : NodeState). identity_of x.member) is

  -- its steps are those of the world's node
  pub takes_there : (asked : Asked) (r : Result Taken NodeFault) → Takes n asked r
      → Takes (node_at w k (up_node n)) asked r
  takes_there asked r = subst (λ (x : NodeState). Takes x asked r) is

  pub full_there : (o : Option (Note Value)) → IsFull n o → IsFull (node_at w k (up_node n)) o
  full_there o = subst (λ (x : NodeState). IsFull x o) is

  pub full_here : (o : Option (Note Value)) → IsFull (node_at w k (up_node n)) o → IsFull n o
  full_here o = subst (λ (x : NodeState). IsFull x o) (sym is)

  -- it is still that node after each step
  pub after_stands : (t : Taken) → after n t ≡ node_at w k (up_node (after n t))
  after_stands t = subst (λ (x : NodeState). after x t ≡ node_at w k (up_node (after x t)))
      (sym is) refl

-- it is also that node in a world with the same units and weights
pub stands_on : (w v : World) (k : ℕ) (n : NodeState) → v.division ≡ w.division
    → v.weights ≡ w.weights → n ≡ node_at w k (up_node n) → n ≡ node_at v k (up_node n)
stands_on w v k n units weights is =
    is ∙ (λ i. node_at (record w { division = sym units i; weights = sym weights i }) k (up_node n))

-- The node's step on the event was the world's: in the world after it, this node and all others are
-- in place.
pub record HasStepped (w : World) (e : Event) (n : NodeState) (t : Taken) (v : World) : Type 0 where
  pub steps : Steps w e v
  pub division : v.division ≡ w.division
  pub weights : v.weights ≡ w.weights
  pub nodes : v.nodes ≡ slice_set w.nodes (node_of e) (up_node (after n t))
  pub sent : v.sent ≡ with_sends w.sent t.answer.sends
  pub hosted : IsHosted v (node_of e) (after n t)
  pub others : (j : ℕ) (m : NodeState) → j ≢ node_of e → IsHosted w j m → IsHosted v j m

-- ---- an event of its node

module _ (w : World) (e : Event) (n : NodeState) (hosted : IsHosted w (node_of e) n) where
  abbrev k : ℕ
  k = node_of e

  abbrev x : WorldNode
  x = up_node n

  pub is_up_there : IsUp w e x
  is_up_there = record { stands = hosted.stands; up = refl }

  -- the step that it takes is the event's
  pub acts_there : (asked : Asked) → Asks w e asked → IsAsked asked → (t : Taken)
      → Takes n asked (Ok t) → Acts w e x t
  acts_there asked asks can t takes = record {
    is_up = is_up_there;
    asked = asked;
    asks = asks;
    can_be = can;
    takes = takes_there w k n hosted.is asked (Ok t) takes;
  }

  -- what it refuses is refused in the world
  pub refuses_there : (asked : Asked) → Asks w e asked → (f : NodeFault) → Takes n asked (Err f)
      → IsRefusedByNode w e (worlds.Node f)
  refuses_there asked asks f takes = inl (
    f,
    record {
      node = x;
      is_up = is_up_there;
      asked = asked;
      asks = asks;
      refuses = takes_there w k n hosted.is asked (Err f) takes;
    },
    refl,
  )

  -- a step for whose note there is no room is refused, too
  pub full_is_refused : leaves_note e ≡ true → (t : Taken) → Acts w e x t → IsFull n t.answer.note
      → IsRefusedByNode w e (worlds.Node (fault.Log log.Full))
  full_is_refused noted t acts full = inr (
    record {
      node = x;
      taken = t;
      acts = acts;
      noted = noted;
      full = full_there w k n hosted.is t.answer.note full;
    },
    refl,
  )

  -- A stop inside the step may leave anything, if the log has room for its note.
  pub stops_there : is_step e ≡ true → (t : Taken) → Acts w e x t → ¬ IsFull n t.answer.note
      → (l : Left) → (v : World) × StopsIn w e l v
  stops_there step t acts room l = (
    with_node w k (left_node l n.notes t.answer.note),
    record {
      node = x;
      taken = t;
      step = step;
      acts = acts;
      room = room_for l;
      leaves = refl;
    },
  )
    where
      room_for : (l : Left) → HasRoomFor w k x l t.answer.note
      room_for left.None = tt
      room_for (left.Torn bytes) = tt
      room_for left.Whole = λ full. room (full_here w k n hosted.is t.answer.note full)

  -- ---- in a reachable world

  module _ (made : IsMade w.division w.weights) (events : List Event)
      (led : Leads (start w.division w.weights) events w) where
    -- What it refuses changes nothing: no datagram that was sent is foreign.
    pub refused_there : fault_before w e ≡ None → (asked : Asked) → Asks w e asked → (f : NodeFault)
        → Takes n asked (Err f) → (m : NodeState) → m ≡ left_by n asked f
        → (m ≡ n) × IsRefusedByNode w e (worlds.Node f)
    refused_there may asked asks f takes m state =
        by f (by_step n asked f (runs w k n hosted.is) takes) takes state
      where
        by : (f : NodeFault) → IsByStep (Err f) → Takes n asked (Err f) → m ≡ left_by n asked f
            → (m ≡ n) × IsRefusedByNode w e (worlds.Node f)
        by fault.Memory kind t left = absurd kind
        by (fault.Refused r) kind t left = (left, refuses_there asked asks (fault.Refused r) t)
        by (fault.Log g) kind t left = absurd kind
        by fault.Stopped kind t left = (left, refuses_there asked asks fault.Stopped t)
        by (fault.Foreign g) kind t left = absurd (none_is_foreign build_is_read each_run_is_acts
            w.division w.weights events w e g made led
            (inr (may, refuses_there asked asks (fault.Foreign g) t)))

    -- Its step is one of the world, if the log has room for its note.
    pub steps_there : is_step e ≡ true → (t : Taken) → Acts w e x t → ¬ IsFull n t.answer.note
        → (v : World) × HasStepped w e n t v
    steps_there step t acts room = (
      v,
      record {
        steps = record {
          node = x;
          taken = t;
          acts = acts;
          room = λ full. room (full_here w k n hosted.is t.answer.note full);
          list = list.1;
          leaves = refl;
        };
        division = refl;
        weights = refl;
        nodes = nodes;
        sent = refl;
        hosted = record {
          stands = ap (λ l. slice_get l k) nodes
              ∙ set_there w.nodes k x (up_node (after n t)) hosted.stands;
          is = after_stands w k n hosted.is t;
        };
        others = λ j m other h. record {
          stands = ap (λ l. slice_get l j) nodes
              ∙ set_elsewhere w.nodes k j (up_node (after n t)) other ∙ h.stands;
          is = h.is;
        };
      },
    )
      where
        list : (l : List Content) × IsListAfter w (with_sends w.sent t.answer.sends) l
        list = each_has_list each_run_is_acts build_is_read w.division w.weights events w e x t made
            led step acts

        v : World
        v = stepped w k x t list.0

        nodes : v.nodes ≡ slice_set w.nodes k (up_node (after n t))
        nodes = ap (λ (z : NodeState). slice_set w.nodes k (up_node (after z t))) (sym hosted.is)
