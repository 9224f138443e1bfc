-- Whatever happens in a world may happen to hosts that have its nodes.
use Rattle.std.proofs.Common.{◌≡◌, ◌++◌, ℕ, true, false, List, [], Some, Ok, slice_get, slice_set, refl, sym, ap, subst, ◌∙◌, inl, inr, ⊎_elim, true≢false}
use Rattle.std.specs.Prelude.{◌↔◌, All, Contains}
use Rattle.std.proofs.lemmas.Bool.{cases_eq}
use Rattle.std.proofs.lemmas.List.Elements.{All-weaker, Contains-append_cases, Contains-append_left, Contains-append_right}
use Rattle.engine.specs.Division.{Division, number_named}
use Rattle.protocol.specs.Events.{Event, Ask, Built, Claim, Deliver, Failed, Nudge, Restart, Stop, StopIn, is_step, node_of}
use Rattle.protocol.specs.declared.event.Left.{Left}
use Rattle.protocol.specs.declared.event.Left.TheVariants as left
use Rattle.faults.specs.Bytes.{Text}
use Rattle.laws.proofs.Events.{asks_sent, asks_turn}
use Rattle.laws.proofs.Moving.{IsButOne, nodes_then}
use Rattle.laws.proofs.Places.{some_same}
use Rattle.laws.specs.Hosts.{Down, Host, Hosts, IsLeft, Up, WasOffered, sends_of}
use Rattle.laws.specs.Run.{HasEnded, HasOpened, HasTurned, Run, ended, opened, turned}
use Rattle.laws.specs.Worlds.{AreNodesOf, IsNodeOf}
use Rattle.node.specs.Calls.{IsOpened}
use Rattle.node.specs.OnLog.{IsFull, texts_of}
use Rattle.node.specs.State.{NodeState, opened_node, with_note}
use Rattle.node.specs.Step.{Asked, Comes, Does, Taken, Takes, after}
use Rattle.protocol.specs.Restoring.{AreOnUnits}
use Rattle.wire.specs.Messages.{IsNote}
use Rattle.world.proofs.Growth.{leads_later}
use Rattle.one_list.proofs.uses.HostedNodes.{set_elsewhere, set_there}
use Rattle.one_list.proofs.clauses.OneListOfRuns.{each_run_is_acts}
use Rattle.world.proofs.SentAdditions.{sends_come, sends_stay, sends_there}
use Rattle.world.specs.Happening.{Happens, HasRoomFor, Leads, Restarts, Steps, Stops, StopsIn, left_node}
use Rattle.one_list.specs.Local.{IsOfUnit}
use Rattle.world.specs.Sent.{with_sends}
use Rattle.world.specs.World.{IsMade, World, WorldNode, down_node, node_at, restarted_node, start, up_node, with_node}

-- The hosts' nodes are the world's, and each node of the world is on a host.
pub record Mirrors (w : World) (h : Hosts) : Type 0 where
  pub are : AreNodesOf w h
  pub all : (k : ℕ) (x : WorldNode) → slice_get w.nodes k ≡ Some x
      → (y : Host) × (slice_get h.hosts k ≡ Some y)

-- if there was something at each place of the old list, there is in the new one
some_there : (xs : List WorldNode) (old : List Host) (k : ℕ) (y : WorldNode) (new : Host)
    → ((j : ℕ) (x : WorldNode) → slice_get xs j ≡ Some x → (h : Host) × (slice_get old j ≡ Some h))
    → (before : Host) → slice_get old k ≡ Some before → (j : ℕ) (x : WorldNode)
    → slice_get (slice_set xs k y) j ≡ Some x
    → (h : Host) × (slice_get (slice_set old k new) j ≡ Some h)
some_there xs old k y new all before stood j x at = elim (cases_eq j k) [
  | inl same ↦ (new, ap (slice_get (slice_set old k new)) same ∙ set_there old k before new stood)
  | inr other ↦
      let there = all j x (sym (set_elsewhere xs k j y other) ∙ at) in
      (there.0, set_elsewhere old k j new other ∙ there.1)
]

-- ---- a node that is up

-- The node of this number is up on its host, in this state.
record IsUpThere (w : World) (h : Hosts) (k : ℕ) (x : WorldNode) : Type 0 where
  node : NodeState
  stands : slice_get h.hosts k ≡ Some (Up node)
  shown : x ≡ up_node node
  is : node ≡ node_at w k x

up_there : (w : World) (h : Hosts) → Mirrors w h → (k : ℕ) (x : WorldNode)
    → slice_get w.nodes k ≡ Some x → x.up ≡ true → IsUpThere w h k x
up_there w h m k x stands up =
    let there = m.all k x stands in
    by there.0 there.1 (m.are.nodes k there.0 there.1)
  where
    by : (y : Host) → slice_get h.hosts k ≡ Some y → IsNodeOf w k y → IsUpThere w h k x
    by (Up n) at (here, is) =
        let same : x ≡ up_node n = some_same x (up_node n) (sym stands ∙ here) in
        record {
          node = n;
          stands = at;
          shown = same;
          is = is ∙ ap (node_at w k) (sym same);
        }
    by (Down texts) at (y, here, down, same) =
        let one : x ≡ y = some_same x y (sym stands ∙ here) in
        absurd (true≢false (sym up ∙ (ap (λ (z : WorldNode). z.up) one ∙ down)))

-- what was sent in the world was offered by its hosts
offered_so : (w : World) (h : Hosts) → AreNodesOf w h → (asked : Asked)
    → WasOffered w.sent asked → WasOffered h.offered asked
offered_so w h are (Comes text) came = (are.sent text).1 came
offered_so w h are (Does input) came = tt

-- ---- each event

-- These hosts may become hosts that have the world's nodes.
abbrev pub Becomes : Division → List ℕ → Hosts → World → Type 0
Becomes division weights h v =
    (g : Hosts) × ((first : Hosts) → Run division.tree weights first h
    → Run division.tree weights first g)
    × Mirrors v g

module _ (division : Division) (weights : List ℕ) (made : IsMade division weights)
    (w v : World) (h : Hosts) (m : Mirrors w h) where
  -- a node's step
  step_becomes : (e : Event) → is_step e ≡ true → Steps w e v → Becomes division weights h v
  step_becomes e step s = (
    g,
    (λ first run. turned h g run moved),
    record {
      are = record {
        nodes = nodes_then w v h.hosts g.hosts k (Up n) (Up (after n t)) (up_node (after n t))
            m.are.nodes there.stands refl but here;
        sent = sent_then;
      };
      all = λ j x at. some_there w.nodes h.hosts k (up_node (after n t)) (Up (after n t)) m.all
          (Up n) there.stands j x (ap (λ l. slice_get l j) (sym but_nodes) ∙ at);
    },
  )
    where
      k : ℕ
      k = node_of e

      t : Taken
      t = s.taken

      there : IsUpThere w h k s.node
      there = up_there w h m k s.node s.acts.is_up.stands s.acts.is_up.up

      n : NodeState
      n = there.node

      g : Hosts
      g = record {
        hosts = slice_set h.hosts k (Up (after n t));
        offered = h.offered ++ sends_of t;
      }

      moved : HasTurned h g
      moved = record {
        number = k;
        node = n;
        up = there.stands;
        asked = s.acts.asked;
        taken = t;
        step = record {
          asks = asks_turn w e s.acts.asked step s.acts.asks s.acts.can_be;
          came = offered_so w h m.are s.acts.asked (asks_sent w e s.acts.asked step s.acts.asks);
          takes = subst (λ z. Takes z s.acts.asked (Ok t)) (sym there.is) s.acts.takes;
          room = subst (λ z. ¬ IsFull z t.answer.note) (sym there.is) s.room;
        };
        hosts = refl;
        offered = refl;
      }

      but_nodes : v.nodes ≡ slice_set w.nodes k (up_node (after n t))
      but_nodes = ap (λ (z : World). z.nodes) s.leaves
          ∙ ap (λ z. slice_set w.nodes k (up_node (after z t))) (sym there.is)

      but : IsButOne w v k (up_node (after n t))
      but = record {
        division = ap (λ (z : World). z.division) s.leaves;
        weights = ap (λ (z : World). z.weights) s.leaves;
        nodes = but_nodes;
      }

      here : IsNodeOf v k (Up (after n t))
      here = (
        ap (λ l. slice_get l k) but_nodes
            ∙ set_there w.nodes k s.node (up_node (after n t)) s.acts.is_up.stands,
        subst (λ z. after z t ≡ node_at v k (up_node (after z t))) (sym there.is)
            (λ i. node_at
            (record v { division = sym but.division i; weights = sym but.weights i }) k
            (up_node (after (node_at w k s.node) t))),
      )

      sent_is : v.sent ≡ with_sends w.sent t.answer.sends
      sent_is = ap (λ (z : World). z.sent) s.leaves

      sent_then : (text : Text) → Contains g.offered text ↔ Contains v.sent text
      sent_then text = (
        (λ c. subst (λ l. Contains l text) (sym sent_is) (⊎_elim
            (λ early. sends_stay w.sent t.answer.sends text ((m.are.sent text).0 early))
            (λ late. sends_there w.sent t.answer.sends text late)
            (Contains-append_cases h.offered (sends_of t) text c))),
        (λ c. ⊎_elim
            (λ early. Contains-append_left h.offered (sends_of t) text ((m.are.sent text).1 early))
            (λ late. Contains-append_right h.offered (sends_of t) text late)
            (sends_come w.sent t.answer.sends text (subst (λ l. Contains l text) sent_is c))),
      )

  -- a node goes down, with these notes
  down_becomes : (k : ℕ) (x : WorldNode) → slice_get w.nodes k ≡ Some x → x.up ≡ true
      → (y : WorldNode) → y.up ≡ false
      → ((n : NodeState) → n ≡ node_at w k x → IsLeft h.offered n (texts_of y.notes))
      → v ≡ with_node w k y → Becomes division weights h v
  down_becomes k x stands up y down left same = (
    g,
    (λ first run. ended h g run moved),
    record {
      are = record {
        nodes = nodes_then w v h.hosts g.hosts k (Up there.node) (Down (texts_of y.notes)) y
            m.are.nodes there.stands refl but (
              y,
              ap (λ l. slice_get l k) but.nodes ∙ set_there w.nodes k x y stands,
              down,
              refl,
            );
        sent = λ text. (
          (λ c. subst (λ l. Contains l text) (sym sent_is) ((m.are.sent text).0 c)),
          (λ c. (m.are.sent text).1 (subst (λ l. Contains l text) sent_is c)),
        );
      };
      all = λ j z at. some_there w.nodes h.hosts k y (Down (texts_of y.notes)) m.all (Up there.node)
          there.stands j z (ap (λ l. slice_get l j) (sym but.nodes) ∙ at);
    },
  )
    where
      there : IsUpThere w h k x
      there = up_there w h m k x stands up

      g : Hosts
      g = record h { hosts = slice_set h.hosts k (Down (texts_of y.notes)) }

      moved : HasEnded h g
      moved = record {
        number = k;
        node = there.node;
        up = there.stands;
        left = texts_of y.notes;
        is_left = left there.node there.is;
        hosts = refl;
        offered = refl;
      }

      sent_is : v.sent ≡ w.sent
      sent_is = ap (λ (z : World). z.sent) same

      but : IsButOne w v k y
      but = record {
        division = ap (λ (z : World). z.division) same;
        weights = ap (λ (z : World). z.weights) same;
        nodes = ap (λ (z : World). z.nodes) same;
      }

  stop_becomes : (k : ℕ) → Stops w k v → Becomes division weights h v
  stop_becomes k s = down_becomes k s.node s.is_up.stands s.is_up.up (down_node s.node.notes [])
      refl (λ n is. inl (ap (λ (z : NodeState). texts_of z.notes) (sym is))) s.leaves

  stop_in_becomes : (e : Event) (l : Left) → StopsIn w e l v → Becomes division weights h v
  stop_in_becomes e l s = by l s.room s.leaves
    where
      k : ℕ
      k = node_of e

      before : (n : NodeState) → n ≡ node_at w k s.node → IsLeft h.offered n (texts_of s.node.notes)
      before n is = inl (ap (λ (z : NodeState). texts_of z.notes) (sym is))

      by : (l : Left) → HasRoomFor w k s.node l s.taken.answer.note
          → v ≡ with_node w k (left_node l s.node.notes s.taken.answer.note)
          → Becomes division weights h v
      by left.None room leaves = down_becomes k s.node s.acts.is_up.stands s.acts.is_up.up
          (down_node s.node.notes []) refl before leaves
      by (left.Torn bytes) room leaves = down_becomes k s.node s.acts.is_up.stands s.acts.is_up.up
          (down_node s.node.notes bytes) refl before leaves
      by left.Whole room leaves = down_becomes k s.node s.acts.is_up.stands s.acts.is_up.up
          (down_node (with_note s.node.notes s.taken.answer.note) []) refl
          (λ n is. inr (
            s.acts.asked,
            s.taken,
            record {
              asks = asks_turn w e s.acts.asked s.step s.acts.asks s.acts.can_be;
              came = offered_so w h m.are s.acts.asked
                  (asks_sent w e s.acts.asked s.step s.acts.asks);
              takes = subst (λ z. Takes z s.acts.asked (Ok s.taken)) (sym is) s.acts.takes;
              room = subst (λ z. ¬ IsFull z s.taken.answer.note) (sym is) room;
            },
            ap (λ (z : NodeState). texts_of (with_note z.notes s.taken.answer.note)) (sym is),
          )) leaves

  -- a node starts again
  restart_becomes : (events : List Event) → Leads (start division weights) events w → (k : ℕ)
      → Restarts w k v → Becomes division weights h v
  restart_becomes events led k s =
      let there = m.all k s.node s.stands in
      by there.0 there.1 (m.are.nodes k there.0 there.1)
    where
      fixed : (w.division ≡ division) × (w.weights ≡ weights)
      fixed = let l = leads_later (start division weights) w events led in (l.division, l.weights)

      x : WorldNode
      x = s.node

      o : NodeState
      o = opened_node division weights k x.notes

      local : All (IsOfUnit w) x.notes
      local = ((each_run_is_acts division weights events w made led).3.each k x s.stands).notes

      is_opened : IsOpened division.tree weights k o
      is_opened = record {
        division = division;
        of_tree = refl;
        divided = made.divided;
        notes_are = All-weaker (IsOfUnit w) IsNote (λ n is. is.note) x.notes local;
        on_units = subst (λ d. AreOnUnits d x.notes) fixed.0 (All-weaker (IsOfUnit w)
            (λ n. (u : ℕ) × (number_named w.division n.path ≡ Some u))
            (λ n is. (is.unit, is.of_unit)) x.notes local);
        node = refl;
      }

      g : Hosts
      g = record h { hosts = slice_set h.hosts k (Up o) }

      but : IsButOne w v k (restarted_node x.notes)
      but = record {
        division = ap (λ (z : World). z.division) s.leaves;
        weights = ap (λ (z : World). z.weights) s.leaves;
        nodes = ap (λ (z : World). z.nodes) s.leaves;
      }

      sent_is : v.sent ≡ w.sent
      sent_is = ap (λ (z : World). z.sent) s.leaves

      by : (y : Host) → slice_get h.hosts k ≡ Some y → IsNodeOf w k y → Becomes division weights h v
      by (Up n) at (here, is) = absurd (true≢false
          (sym (ap (λ (z : WorldNode). z.up) (some_same x (up_node n) (sym s.stands ∙ here)))
          ∙ s.down))
      by (Down texts) at (y, here, down, same) = (
        g,
        (λ first run. opened h g run moved),
        record {
          are = record {
            nodes = nodes_then w v h.hosts g.hosts k (Down texts) (Up o) (restarted_node x.notes)
                m.are.nodes at refl but (
                  ap (λ l. slice_get l k) but.nodes
                      ∙ set_there w.nodes k x (restarted_node x.notes) s.stands,
                  λ i. opened_node (sym (but.division ∙ fixed.0) i)
                      (sym (but.weights ∙ fixed.1) i) k x.notes,
                );
            sent = λ text. (
              (λ c. subst (λ l. Contains l text) (sym sent_is) ((m.are.sent text).0 c)),
              (λ c. (m.are.sent text).1 (subst (λ l. Contains l text) sent_is c)),
            );
          };
          all = λ j z there. some_there w.nodes h.hosts k (restarted_node x.notes) (Up o) m.all
              (Down texts) at j z (ap (λ l. slice_get l j) (sym but.nodes) ∙ there);
        },
      )
        where
          moved : HasOpened division.tree weights h g
          moved = record {
            number = k;
            texts = texts;
            down = at;
            node = o;
            opened = is_opened;
            own = ap (λ (z : WorldNode). texts_of z.notes)
                (some_same x y (sym s.stands ∙ here)) ∙ same;
            hosts = refl;
            offered = refl;
          }

-- each event
pub event_becomes : (division : Division) (weights : List ℕ) → IsMade division weights
    → (events : List Event) (w v : World) → Leads (start division weights) events w → (h : Hosts)
    → Mirrors w h → (e : Event) → Happens w e v → Becomes division weights h v
event_becomes division weights made events w v led h m (Claim n path host above) s =
    step_becomes division weights made w v h m (Claim n path host above) refl s
event_becomes division weights made events w v led h m (Built n path packages) s =
    step_becomes division weights made w v h m (Built n path packages) refl s
event_becomes division weights made events w v led h m (Failed n path) s =
    step_becomes division weights made w v h m (Failed n path) refl s
event_becomes division weights made events w v led h m (Nudge n) s =
    step_becomes division weights made w v h m (Nudge n) refl s
event_becomes division weights made events w v led h m (Ask n path) s =
    step_becomes division weights made w v h m (Ask n path) refl s
event_becomes division weights made events w v led h m (Deliver d n) s =
    step_becomes division weights made w v h m (Deliver d n) refl s
event_becomes division weights made events w v led h m (Stop n) s =
    stop_becomes division weights made w v h m n s
event_becomes division weights made events w v led h m (StopIn e l) s =
    stop_in_becomes division weights made w v h m e l s
event_becomes division weights made events w v led h m (Restart n) s =
    restart_becomes division weights made w v h m events led n s
