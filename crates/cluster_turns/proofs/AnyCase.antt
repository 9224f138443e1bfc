-- Whatever was left of each step during which a node went down.
use Rattle.std.proofs.Common.{◌≡◌, ◌++◌, ℕ, true, false, List, [], ◌∷◌, Option, None, Some, Ok, map, slice_get, slice_set, refl, sym, ap, subst, ◌∙◌, inl, inr}
use Rattle.std.proofs.lemmas.Option.{slice_get-map}
use Rattle.std.specs.Prelude.{option_map}
use Rattle.std.proofs.lemmas.Bool.{cases_eq}
use Rattle.protocol.specs.Events.{Event, StopIn, event_view, is_step, node_of}
use Rattle.protocol.specs.declared.event.Left.{Left}
use Rattle.protocol.specs.declared.event.Left.TheVariants as left
use Rattle.one_list.proofs.uses.HostedNodes.{HasStepped, IsHosted, acts_there, set_elsewhere, set_there, steps_there, stops_there}
use Rattle.one_list.proofs.clauses.OneListOfRuns.{each_has_one_list, each_run_is_acts}
use Rattle.node.specs.OnLog.{IsFull}
use Rattle.node.specs.State.{LoggedNode, NodeState}
use Rattle.node.specs.Step.{Asked, IsAsked, Taken, Takes, after}
use Rattle.package_record.proofs.BuildsRead.{build_is_read}
use Rattle.cluster_turns.proofs.EventOf.{IsEventOf}
use Rattle.cluster_turns.proofs.Stepping.{HasMoved}
use Rattle.cluster_turns.specs.AnyCase.{AreLeftAs, IsLeftAs, IsListedInAnyCase, LeadsToUp, StandsInAnyCase}
use Rattle.cluster_turns.proofs.Standing.{hosted}
use Rattle.cluster_turns.specs.State.{ClusterState, IsWorldOf, taken}
use Rattle.cluster_turns.specs.Turn.{IsSame}
use Rattle.world.proofs.Growth.{leads_later}
use Rattle.world.proofs.EventParts.{leads_together}
use Rattle.world.specs.Happening.{Acts, Leads, StopsIn, left_node}
use Rattle.world.specs.Sent.{with_sends}
use Rattle.world.specs.World.{IsMade, World, node_at, start, up_node}

-- ---- events that differ in what stops left

-- events and one more, taken apart
pub left_apart : (es : List Event) (e : Event) (fs : List Event) → AreLeftAs (es ++ e ∷ []) fs
    → (gs : List Event) × (g : Event) × (fs ≡ gs ++ g ∷ []) × AreLeftAs es gs × IsLeftAs e g
left_apart [] e [] are = absurd are
left_apart [] e (f ∷ []) are = ([], f, refl, tt, are.0)
left_apart [] e (f ∷ g ∷ fs) are = absurd are.1
left_apart (d ∷ es) e [] are = absurd are
left_apart (d ∷ es) e (f ∷ fs) are =
    let rest = left_apart es e fs are.1 in
    (f ∷ rest.0, rest.1, ap (λ l. f ∷ l) rest.2, (are.0, rest.3), rest.4)

-- a step is the same event
step_stays : (e f : Event) → is_step e ≡ true → IsLeftAs e f → f ≡ e
step_stays e f step (inl same) = same
step_stays e f step (inr (input, l, stop, other)) =
    absurd (let no : false ≡ true = sym (ap is_step stop) ∙ step in cc)

-- a stop is the same stop, with anything left
stop_stays : (e f : Event) → IsLeftAs (StopIn e left.None) f → (l : Left) × (f ≡ StopIn e l)
stop_stays e f (inl same) = (left.None, same)
stop_stays e f (inr (input, l, stop, other)) =
    let known : StopIn e left.None ≡ StopIn input left.None = stop in
    let one : e ≡ input = cc in
    (l, other ∙ ap (λ i. StopIn i l) (sym one))

-- ---- at the start

module _ {D P : Type 0} (c : ClusterState D P) (w : World) (is : IsWorldOf c w) where
  -- the world that the cluster is is such a world
  its_own : LeadsToUp c (taken c) w
  its_own = record {
    led = is.led;
    sent = is.sent;
    stand = λ k n at up. (hosted c w is k n at up).stands;
    know = λ k n at up. (hosted c w is k n at up).is;
  }

  -- at the start there is no other
  pub starts_in_any : taken c ≡ [] → StandsInAnyCase c
  starts_in_any none [] are = (w, subst (λ es. LeadsToUp c es w) none its_own)
  starts_in_any none (e ∷ es) are =
      absurd (subst (λ l. AreLeftAs l (e ∷ es)) none are)

-- ---- nothing more

-- a value that a function returns is that of something
seen_of : {X Y : Type 0} (f : X → Y) (o : Option X) (y : Y) → option_map f o ≡ Some y
    → (x : X) × (o ≡ Some x) × (f x ≡ y)
seen_of {Y = Y} f None y is = absurd (let no : ◌≡◌ {A = Option Y} None (Some y) = is in cc)
seen_of {Y = Y} f (Some x) y is =
    let known : ◌≡◌ {A = Option Y} (Some (f x)) (Some y) = is in
    let same : f x ≡ y = cc in
    (x, refl, same)

module _ {D P : Type 0} (old new : ClusterState D P) (division : new.division ≡ old.division)
    (weights : new.weights ≡ old.weights) (same : IsSame old new) where
  node_before : (k : ℕ) (n : LoggedNode D) → slice_get new.nodes k ≡ Some n
      → (m : LoggedNode D) × (slice_get old.nodes k ≡ Some m) × (m.node ≡ n.node)
  node_before k n at = seen_of (λ (x : LoggedNode D). x.node) (slice_get old.nodes k) n.node
      (sym (slice_get-map (λ (x : LoggedNode D). x.node) old.nodes k)
      ∙ (ap (λ l. slice_get l k) (sym same.nodes)
      ∙ (slice_get-map (λ (x : LoggedNode D). x.node) new.nodes k
      ∙ ap (option_map (λ (x : LoggedNode D). x.node)) at)))

  same_so : (es : List Event) (w : World) → LeadsToUp old es w → LeadsToUp new es w
  same_so es w so = record {
    led = subst (λ d. Leads (start d new.weights) es w) (sym division)
        (subst (λ ws. Leads (start old.division ws) es w) (sym weights) so.led);
    sent = so.sent ∙ sym same.sent;
    stand = λ k n at up.
        let m = node_before k n at in
        subst (λ (x : NodeState). slice_get w.nodes k ≡ Some (up_node x)) m.2
        (so.stand k m.0 m.1 (ap (λ (x : NodeState). x.stopped) m.2 ∙ up));
    know = λ k n at up.
        let m = node_before k n at in
        subst (λ (x : NodeState). x ≡ node_at w k (up_node x)) m.2
        (so.know k m.0 m.1 (ap (λ (x : NodeState). x.stopped) m.2 ∙ up));
  }

  -- if nothing changed, it still holds
  pub still_in_any : StandsInAnyCase old → StandsInAnyCase new
  still_in_any any es are =
      let before = any es (subst (λ l. AreLeftAs l es) (ap (map event_view) same.events) are) in
      (before.0, same_so es before.0 before.1)

-- ---- one more event

module _ {D P : Type 0} (old : ClusterState D P) (k : ℕ) (n : LoggedNode D)
    (stands : slice_get old.nodes k ≡ Some n) (up : n.node.stopped ≡ false) (asked : Asked)
    (can : IsAsked asked) (e : Event) (event : IsEventOf old.sent k asked e) (t : Taken)
    (takes : Takes n.node asked (Ok t)) (room : ¬ IsFull n.node t.answer.note)
    (made : IsMade old.division old.weights) where
  module _ (es : List Event) (w : World) (so : LeadsToUp old es w) where
    fixed : (w.division ≡ old.division) × (w.weights ≡ old.weights)
    fixed =
        let l = leads_later (start old.division old.weights) w es so.led in
        (l.division, l.weights)

    made_there : IsMade w.division w.weights
    made_there = subst (λ d. IsMade d w.weights) (sym fixed.0)
        (subst (λ ws. IsMade old.division ws) (sym fixed.1) made)

    led_there : Leads (start w.division w.weights) es w
    led_there = subst (λ d. Leads (start d w.weights) es w) (sym fixed.0)
        (subst (λ ws. Leads (start old.division ws) es w) (sym fixed.1) so.led)

    hosted_at : (j : ℕ) (m : LoggedNode D) → slice_get old.nodes j ≡ Some m
        → m.node.stopped ≡ false → IsHosted w j m.node
    hosted_at j m at runs =
        record { stands = so.stand j m at runs; is = so.know j m at runs }

    hosted_here : IsHosted w (node_of e) n.node
    hosted_here = subst (λ j. IsHosted w j n.node) (sym event.of_node) (hosted_at k n stands up)

    acts : Acts w e (up_node n.node) t
    acts = acts_there w e n.node hosted_here asked (event.asks w so.sent) can t takes

    -- ---- its step

    module _ (new : ClusterState D P) (later : LoggedNode D) (moved : HasMoved old new k e t n later) where
      steps_so : (v : World) × LeadsToUp new (es ++ e ∷ []) v
      steps_so =
          let step = steps_there w e n.node hosted_here made_there es led_there event.step t acts room in
          by step.0 step.1
        where
          by : (v : World) → HasStepped w e n.node t v → (v : World) × LeadsToUp new (es ++ e ∷ []) v
          by v s = (
            v,
            record {
              led = subst (λ d. Leads (start d new.weights) (es ++ e ∷ []) v) (sym moved.division)
                  (subst (λ ws. Leads (start old.division ws) (es ++ e ∷ []) v) (sym moved.weights)
                  (leads_together (start old.division old.weights) w v es (e ∷ []) so.led
                  (v, event.happens w v s.steps, refl)));
              sent = s.sent
                  ∙ (ap (λ l. with_sends l t.answer.sends) so.sent ∙ sym moved.sent);
              stand = λ j m at runs. (hosted_then j m at runs).stands;
              know = λ j m at runs. (hosted_then j m at runs).is;
            },
          )
            where
              here : (m : LoggedNode D) → slice_get new.nodes k ≡ Some m → IsHosted v k m.node
              here m at =
                  let known : ◌≡◌ {A = Option (LoggedNode D)} (Some later) (Some m) =
                  sym (set_there old.nodes k n later stands)
                  ∙ (ap (λ l. slice_get l k) (sym moved.nodes) ∙ at) in
                  let one : later ≡ m = cc in
                  subst (λ (x : LoggedNode D). IsHosted v k x.node) one
                  (subst (λ (x : NodeState). IsHosted v k x) (sym moved.state)
                  (subst (λ j. IsHosted v j (after n.node t)) event.of_node s.hosted))

              hosted_then : (j : ℕ) (m : LoggedNode D) → slice_get new.nodes j ≡ Some m
                  → m.node.stopped ≡ false → IsHosted v j m.node
              hosted_then j m at runs = elim (cases_eq j k) [
                | inl same ↦ subst (λ i. IsHosted v i m.node) (sym same)
                    (here m (ap (slice_get new.nodes) (sym same) ∙ at))
                | inr other ↦ s.others j m.node (λ same. other (same ∙ event.of_node))
                    (hosted_at j m (sym (set_elsewhere old.nodes k j later other)
                    ∙ (ap (λ l. slice_get l j) (sym moved.nodes) ∙ at)) runs)
              ]

    -- ---- a stop during it

    module _ (new : ClusterState D P) (later : LoggedNode D)
        (nodes : new.nodes ≡ slice_set old.nodes k later) (down : later.node.stopped ≡ true)
        (sent : new.sent ≡ old.sent) (division : new.division ≡ old.division)
        (weights : new.weights ≡ old.weights) (l : Left) where
      stops_so : (v : World) × LeadsToUp new (es ++ StopIn e l ∷ []) v
      stops_so =
          let stop = stops_there w e n.node hosted_here event.step t acts room l in
          by stop.0 stop.1
        where
          by : (v : World) → StopsIn w e l v
              → (v : World) × LeadsToUp new (es ++ StopIn e l ∷ []) v
          by v s = (
            v,
            record {
              led = subst (λ d. Leads (start d new.weights) (es ++ StopIn e l ∷ []) v)
                  (sym division)
                  (subst (λ ws. Leads (start old.division ws) (es ++ StopIn e l ∷ []) v)
                  (sym weights)
                  (leads_together (start old.division old.weights) w v es (StopIn e l ∷ []) so.led
                  (v, s, refl)));
              sent = ap (λ (x : World). x.sent) s.leaves ∙ (so.sent ∙ sym sent);
              stand = λ j m at runs. (hosted_then j m at runs).stands;
              know = λ j m at runs. (hosted_then j m at runs).is;
            },
          )
            where
              hosted_then : (j : ℕ) (m : LoggedNode D) → slice_get new.nodes j ≡ Some m
                  → m.node.stopped ≡ false → IsHosted v j m.node
              hosted_then j m at runs = elim (cases_eq j k) [
                | inl same ↦ absurd (
                    let known : ◌≡◌ {A = Option (LoggedNode D)} (Some later) (Some m) =
                    sym (set_there old.nodes k n later stands)
                    ∙ (ap (λ l. slice_get l k) (sym nodes) ∙ (ap (slice_get new.nodes) (sym same) ∙ at)) in
                    let one : later ≡ m = cc in
                    let no : true ≡ false =
                    sym down ∙ (ap (λ (x : LoggedNode D). x.node.stopped) one ∙ runs) in cc)
                | inr other ↦
                    let before = hosted_at j m (sym (set_elsewhere old.nodes k j later other)
                    ∙ (ap (λ l. slice_get l j) (sym nodes) ∙ at)) runs in
                    let put = left_node l s.node.notes s.taken.answer.note in
                    record {
                      stands = ap (λ (x : World). slice_get x.nodes j) s.leaves
                          ∙ (set_elsewhere w.nodes (node_of e) j put
                          (λ same. other (same ∙ event.of_node)) ∙ before.stands);
                      is = before.is ∙ (λ i. node_at (sym s.leaves i) j (up_node m.node));
                    }
              ]

  -- ---- so it still holds in any case

  module _ (any : StandsInAnyCase old) (new : ClusterState D P) where
    -- after the step
    pub moved_in_any : (later : LoggedNode D) → HasMoved old new k e t n later → StandsInAnyCase new
    moved_in_any later moved fs are =
        let part = left_apart (taken old) e fs (subst (λ l. AreLeftAs l fs) moved.events are) in
        let before = any part.0 part.3 in
        let same = step_stays e part.1 event.step part.4 in
        let next = steps_so part.0 before.0 before.1 new later moved in
        subst (λ l. (v : World) × LeadsToUp new l v)
        (sym (part.2 ∙ ap (λ g. part.0 ++ g ∷ []) same)) next

    -- after a stop during it
    pub stopped_in_any : new.division ≡ old.division → new.weights ≡ old.weights
        → (later : LoggedNode D) → new.nodes ≡ slice_set old.nodes k later → later.node.stopped ≡ true
        → new.sent ≡ old.sent → taken new ≡ taken old ++ StopIn e left.None ∷ []
        → StandsInAnyCase new
    stopped_in_any division weights later nodes down sent events fs are =
        let part = left_apart (taken old) (StopIn e left.None) fs
        (subst (λ l. AreLeftAs l fs) events are) in
        let before = any part.0 part.3 in
        let stop = stop_stays e part.1 part.4 in
        let next = stops_so part.0 before.0 before.1 new later nodes down sent division weights
        stop.0 in
        subst (λ l. (v : World) × LeadsToUp new l v)
        (sym (part.2 ∙ ap (λ g. part.0 ++ g ∷ []) stop.1)) next

-- ---- the headline

-- what holds of each run holds there
pub listed_in_any : {D P : Type 0} (c : ClusterState D P) → IsMade c.division c.weights
    → StandsInAnyCase c → IsListedInAnyCase c
listed_in_any c made any es are =
    let there = any es are in
    let all = each_has_one_list each_run_is_acts build_is_read c.division c.weights es there.0 made
    there.1.led in
    (there.0, there.1, all.0, all.1)
