-- How turns change a cluster.
use Rattle.std.proofs.Common.{◌≡◌, ◌∙◌, ◌++◌, ℕ, false, List, [], ◌∷◌, Option, None, Some, Result, Ok, Err, IfErr, IfOk, map, slice_get, ap, append_assoc, refl, subst, sym, append-nil, if◌then◌else◌}
use Rattle.std.proofs.lemmas.Option.{slice_get-map}
use Rattle.std.specs.Prelude.{IfNone, IfSome, option_map}
use Rattle.turn_rules.specs.declared.fault.TurnFault.{TurnFault}
use Rattle.turn_rules.specs.declared.fault.TurnFault.TheVariants as refused
use Rattle.protocol.specs.Events.{Event, StopIn, event_view}
use Rattle.protocol.specs.declared.event.Event as declared
use Rattle.protocol.specs.declared.event.Left.TheVariants as left
use Rattle.node.specs.State.{LoggedNode, NodeState}
use Rattle.protocol.specs.Given.{Given}
use Rattle.cluster_turns.specs.Faults.{IsLeftBy, IsTurnFault}
use Rattle.cluster_turns.specs.State.{ClusterState, IsWorldOf, node_view, taken}
use Rattle.cluster_turns.specs.Turn.{HasHappened, IsSame}
use Rattle.check_turns.specs.Going.{GoesOn, GoesOnWith, event_in}
use Rattle.engine.specs.Division.{Division}
use Rattle.world.proofs.EventParts.{leads_together}
use Rattle.world.specs.Happening.{Leads}
use Rattle.world.specs.World.{IsMade, World, WorldNode, down_node, node_at, start, up_node}
use Rattle.datagram_ports.specs.declared.port.Port.{Ghosts as Port}

-- ---- nodes, and what they are in a world

-- a node as its own contracts see it
abbrev pub state : {D : Type 0} → LoggedNode D → NodeState
state n = n.node

-- and as one of a world
abbrev pub view_of : NodeState → WorldNode
view_of x = if x.stopped then down_node x.notes [] else up_node x

by_states : {D : Type 0} (xs : List (LoggedNode D)) → map node_view xs ≡ map view_of (map state xs)
by_states [] = refl
by_states (n ∷ ns) = ap (λ l. node_view n ∷ l) (by_states ns)

found : {X Y : Type 0} (f : X → Y) (o : Option X) (y : Y) → option_map f o ≡ Some y
    → (x : X) × (o ≡ Some x) × (y ≡ f x)
found {X} {Y} f None y e = absurd (let no : ◌≡◌ {A = Option Y} None (Some y) = e in cc)
found {X} {Y} f (Some x) y e =
    let both : ◌≡◌ {A = Option Y} (Some (f x)) (Some y) = e in
    let same : f x ≡ y = cc in (x, refl, sym same)

-- elements of two lists with equal images have equal images at the same places
pub shown_there : {X Y : Type 0} (f : X → Y) (xs ys : List X) → map f ys ≡ map f xs → (k : ℕ) (y : X)
    → slice_get ys k ≡ Some y → (x : X) × (slice_get xs k ≡ Some x) × (f y ≡ f x)
shown_there f xs ys same k y at =
    found f (slice_get xs k) (f y)
    (sym (slice_get-map f xs k) ∙ ap (λ l. slice_get l k) (sym same) ∙ slice_get-map f ys k
    ∙ ap (option_map f) at)

-- ---- a cluster in which nothing changed

module _ {D P : Type 0} (old new : ClusterState D P) (same : IsSame old new)
    (division : new.division ≡ old.division) (weights : new.weights ≡ old.weights) where
  same_views : map node_view new.nodes ≡ map node_view old.nodes
  same_views = by_states new.nodes ∙ ap (map view_of) same.nodes ∙ sym (by_states old.nodes)

  same_led : (w : World) → Leads (start old.division old.weights) (taken old) w
      → Leads (start new.division new.weights) (taken new) w
  same_led w led =
      subst (λ (l : List Event). Leads (start new.division new.weights) l w)
      (sym (ap (map event_view) same.events))
      (subst (λ (d : Division). Leads (start d new.weights) (taken old) w) (sym division)
      (subst (λ (ws : List ℕ). Leads (start old.division ws) (taken old) w) (sym weights) led))

  same_made : IsMade old.division old.weights → IsMade new.division new.weights
  same_made made =
      subst (λ (d : Division). IsMade d new.weights) (sym division)
      (subst (λ (ws : List ℕ). IsMade old.division ws) (sym weights) made)

  -- it is the same worlds
  pub same_world : (w : World) → IsWorldOf old w → IsWorldOf new w
  same_world w is = record {
    made = same_made is.made;
    led = same_led w is.led;
    nodes = is.nodes ∙ sym same_views;
    sent = is.sent ∙ sym same.sent;
    know = λ k n at up.
        let m = shown_there state old.nodes new.nodes same.nodes k n at in
        let was_up : m.0.node.stopped ≡ false = ap (λ (x : NodeState). x.stopped) (sym m.2) ∙ up in
        m.2 ∙ is.know k m.0 m.1 was_up ∙ ap (λ (x : NodeState). node_at w k (view_of x)) (sym m.2);
  }

  pub none_happened : GoesOnWith old new []
  none_happened = record {
    kept = ap (map event_view) same.events ∙ sym (append-nil (taken old));
    happened = λ w is. (w, refl, same_world w is);
    division = division;
    weights = weights;
  }

-- ---- one turn

module _ {D P : Type 0} (old new : ClusterState D P) (division : new.division ≡ old.division)
    (weights : new.weights ≡ old.weights) where
  pub one_happened : (e : Event) → taken new ≡ taken old ++ e ∷ [] → HasHappened old new e
      → GoesOnWith old new (e ∷ [])
  one_happened e kept happened = record {
    kept = kept;
    happened = λ w is. (let h = happened w is in (h.0, (h.0, h.1, refl), h.2));
    division = division;
    weights = weights;
  }

  -- if it succeeded
  pub answered : (o : Option declared.Event)
      → IfSome o (λ e. HasHappened old new (event_view e))
      → IfSome o (λ e. taken new ≡ taken old ++ event_view e ∷ [])
      → IfNone o (IsSame old new) → GoesOnWith old new (event_in o)
  answered None happened kept same = none_happened old new same division weights
  answered (Some e) happened kept same = one_happened (event_view e) kept happened

  -- if it was refused
  pub went_on : (port : Port P) (builds : Given) (f : TurnFault) → IsTurnFault port old new builds f
      → IsLeftBy old new f → GoesOn old new
  went_on port builds refused.Memory why same =
      ([], none_happened old new same division weights)
  went_on port builds (refused.Node f) why same =
      ([], none_happened old new same division weights)
  went_on port builds (refused.Down k) (e, chosen, down) any =
      (StopIn e left.None ∷ [], one_happened (StopIn e left.None) down.events down.stopped)
  went_on port builds refused.NotSent why same =
      ([], none_happened old new same division weights)
  went_on port builds refused.NotFresh why same = absurd why

  -- whatever its result
  pub any_turn : (port : Port P) (builds : Given) (r : Result (Option declared.Event) TurnFault)
      → IfOk r (λ o. IfSome o (λ e. HasHappened old new (event_view e)))
      → IfOk r (λ o. IfSome o (λ e. taken new ≡ taken old ++ event_view e ∷ []))
      → IfOk r (λ o. IfNone o (IsSame old new)) → IfErr r (IsTurnFault port old new builds)
      → IfErr r (IsLeftBy old new) → GoesOn old new
  any_turn port builds (Ok o) happened kept same why leaves =
      (event_in o, answered o happened kept same)
  any_turn port builds (Err f) happened kept same why leaves = went_on port builds f why leaves

-- ---- one after the other

pub both : {D P : Type 0} (old mid new : ClusterState D P) (es fs : List Event)
    → GoesOnWith old mid es → GoesOnWith mid new fs → GoesOnWith old new (es ++ fs)
both old mid new es fs first second = record {
  kept = second.kept ∙ ap (λ l. l ++ fs) first.kept ∙ append_assoc (taken old) es fs;
  happened = λ w is.
      let one = first.happened w is in
      let two = second.happened one.0 one.2 in
      (two.0, leads_together w one.0 two.0 es fs one.1 two.1, two.2);
  division = second.division ∙ first.division;
  weights = second.weights ∙ first.weights;
}

pub no_turn : {D P : Type 0} (c : ClusterState D P) → GoesOn c c
no_turn c = (
  [],
  record {
    kept = sym (append-nil (taken c));
    happened = λ w is. (w, refl, is);
    division = refl;
    weights = refl;
  },
)

pub one_more : {D P : Type 0} (old mid new : ClusterState D P) → GoesOn old mid → GoesOn mid new
    → GoesOn old new
one_more old mid new (es, first) (fs, second) = (es ++ fs, both old mid new es fs first second)
