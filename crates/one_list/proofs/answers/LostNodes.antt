-- What remains on the log of a lost node doesn't change the effect of events at other nodes.
use Rattle.std.proofs.Common.{◌≡◌, ◌⊎◌, ◌∷◌, ℕ, zero, suc, true, false, List, [], length, Option, None, Some, slice_get, slice_set, refl, sym, ap, subst, ◌∙◌, arith, inl, inr, ⊎_elim}
use Rattle.std.proofs.lemmas.Bool.{true≢false}
use Rattle.std.proofs.lemmas.List.{length-set}
use Rattle.std.proofs.lemmas.Option.{slice_get_within}
use Rattle.faults.specs.Bytes.{Text}
use Rattle.claims.specs.declared.claim.Claim.{Claim}
use Rattle.claims.proofs.Nodes.{get_set}
use Rattle.ballots.specs.declared.message.Note.{Note}
use Rattle.protocol.specs.Events.{Event, Claim as Claims, Built, Failed, Nudge, Ask, Deliver, Stop, StopIn, Restart, node_of}
use Rattle.protocol.specs.declared.event.Left.{Left}
use Rattle.protocol.specs.declared.event.Left.TheVariants as left
use Rattle.node.specs.Step.{Asked, Taken, after}
use Rattle.package_record.specs.Content.{Content}
use Rattle.protocol.specs.State.{Value}
use Rattle.world.specs.Happening.{Acts, Asks, Happens, HasRoomFor, Restarts, Steps, Stops, StopsIn, left_node}
use Rattle.world.specs.Lists.{IsDecided, IsListAfter}
use Rattle.world.specs.World.{World, WorldNode, down_node, node_at, restarted_node, up_node, with_node}
use Rattle.world.proofs.Growth.{get_some}
use Rattle.one_list.specs.Lost.{NeverStarts}

-- ---- nodes

-- The nodes are equal, except for some that are down in both lists and that no event restarts.
pub record AreAlike (events : List Event) (xs ys : List WorldNode) : Type 0 where
  pub count : length ys ≡ length xs
  pub each : (k : ℕ) (x y : WorldNode) → slice_get xs k ≡ Some x → slice_get ys k ≡ Some y
      → (y ≡ x) ⊎ ((x.up ≡ false) × (y.up ≡ false) × NeverStarts k events)

-- with one event less to come
pub one_less : (e : Event) (es : List Event) (xs ys : List WorldNode) → AreAlike (e ∷ es) xs ys
    → AreAlike es xs ys
one_less e es xs ys like = record {
  count = like.count;
  each = λ k x y at there. ⊎_elim (λ same. inl same)
      (λ d. inr (d.0, d.1, λ i z lt. d.2 (suc i) z (omega (arith, lt))))
      (like.each k x y at there);
}

-- a node that is up is in both lists
stands_in_both : (es : List Event) (xs ys : List WorldNode) → AreAlike es xs ys → (k : ℕ)
    (x : WorldNode) → slice_get xs k ≡ Some x → x.up ≡ true → slice_get ys k ≡ Some x
stands_in_both es xs ys like k x at up =
    let y = get_some ys k (omega (arith, slice_get_within xs k x at, like.count)) in
    ⊎_elim (λ same. y.1 ∙ ap (λ z. Some z) same) (λ d. absurd (true≢false (sym up ∙ d.0)))
    (like.each k x y.0 at y.1)

-- the same node put in both lists
put_in_both : (es : List Event) (xs ys : List WorldNode) → AreAlike es xs ys → (k : ℕ)
    (a b : WorldNode) → (b ≡ a) ⊎ ((a.up ≡ false) × (b.up ≡ false) × NeverStarts k es)
    → AreAlike es (slice_set xs k a) (slice_set ys k b)
put_in_both es xs ys like k a b here = record {
  count = length-set ys k b ∙ like.count ∙ sym (length-set xs k a);
  each = λ j x y at there. ⊎_elim
      (λ p. ⊎_elim
      (λ q. ⊎_elim (λ same. inl (q.1 ∙ same ∙ sym p.1))
      (λ d. inr (
        ap (λ (z : WorldNode). z.up) p.1 ∙ d.0,
        ap (λ (z : WorldNode). z.up) q.1 ∙ d.1,
        subst (λ i. NeverStarts i es) (sym p.0) d.2,
      )) here)
      (λ q. absurd (q.0 p.0))
      (get_set ys k j b y there))
      (λ p. ⊎_elim (λ q. absurd (p.0 q.0)) (λ q. like.each j x y p.1 q.1)
      (get_set ys k j b y there))
      (get_set xs k j a x at);
}

-- ---- worlds that differ only in their nodes

module _ (w : World) (ns : List WorldNode) where
  abbrev v : World
  v = record w { nodes = ns }

  asks_so : (e : Event) (asked : Asked) → Asks w e asked → Asks v e asked
  asks_so (Claims n path host above) asked h = h
  asks_so (Built n path files) asked h = h
  asks_so (Failed n path) asked h = h
  asks_so (Nudge n) asked h = h
  asks_so (Ask n path) asked h = h
  asks_so (Deliver d n) asked h = h
  asks_so (Stop n) asked h = h
  asks_so (StopIn e l) asked h = asks_so e asked h
  asks_so (Restart n) asked h = h

  acts_so : (e : Event) (x : WorldNode) (t : Taken) → slice_get ns (node_of e) ≡ Some x
      → Acts w e x t → Acts v e x t
  acts_so e x t there a = record {
    is_up = record { stands = there; up = a.is_up.up };
    asked = a.asked;
    asks = asks_so e a.asked a.asks;
    can_be = a.can_be;
    takes = a.takes;
  }

  decided_so : (sent : List Text) (name : Text) (c : Claim) → IsDecided w sent name c
      → IsDecided v sent name c
  decided_so sent name c d =
      record { claim_is = d.claim_is; now = d.now; not_before = d.not_before }

  was_decided : (sent : List Text) (name : Text) (c : Claim) → IsDecided v sent name c
      → IsDecided w sent name c
  was_decided sent name c d =
      record { claim_is = d.claim_is; now = d.now; not_before = d.not_before }

  list_so : (sent : List Text) (list : List Content) → IsListAfter w sent list
      → IsListAfter v sent list
  list_so sent list (inl (build, d, e)) = inl (
    build,
    record {
      name = d.name;
      claim = d.claim;
      decided = decided_so sent d.name d.claim d.decided;
      proposed = d.proposed;
    },
    e,
  )
  list_so sent list (inr (none, e)) =
      inr ((λ name c d. none name c (was_decided sent name c d)), e)

  room_so : (k : ℕ) (x : WorldNode) (l : Left) (noted : Option (Note Value))
      → HasRoomFor w k x l noted → HasRoomFor v k x l noted
  room_so k x left.None noted h = h
  room_so k x (left.Torn bytes) noted h = h
  room_so k x left.Whole noted h = h

-- ---- an event

-- The event also happens with the other nodes, and leaves worlds that again differ only like that.
pub record GoesOnSo (w : World) (ns : List WorldNode) (e : Event) (es : List Event) (u : World) : Type 0
  where
    pub nodes : List WorldNode
    pub happens : Happens (record w { nodes = ns }) e (record u { nodes = nodes })
    pub alike : AreAlike es u.nodes nodes

-- the effect of a step
record StepsSo (w : World) (ns : List WorldNode) (e : Event) (es : List Event) (u : World) : Type 0
  where
    nodes : List WorldNode
    steps : Steps (record w { nodes = ns }) e (record u { nodes = nodes })
    alike : AreAlike es u.nodes nodes

step_so : (w : World) (ns : List WorldNode) (e : Event) (es : List Event) (u : World)
    → AreAlike es w.nodes ns → Steps w e u → StepsSo w ns e es u
step_so w ns e es u like s =
    let k = node_of e in
    let z = up_node (after (node_at w k s.node) s.taken) in
    let there = stands_in_both es w.nodes ns like k s.node s.acts.is_up.stands s.acts.is_up.up in
    record {
      nodes = slice_set ns k z;
      steps = record {
        node = s.node;
        taken = s.taken;
        acts = acts_so w ns e s.node s.taken there s.acts;
        room = s.room;
        list = list_so w ns _ u.agreed s.list;
        leaves = ap (λ (x : World). record x { nodes = slice_set ns k z }) s.leaves;
      };
      alike = subst (λ xs. AreAlike es xs (slice_set ns k z))
          (sym (ap (λ (x : World). x.nodes) s.leaves))
          (put_in_both es w.nodes ns like k z z (inl refl));
    }

-- A stop inside a step that left one thing, but might have left another.
pub record StopsSo (w : World) (ns : List WorldNode) (e : Event) (l : Left) (es : List Event) (u : World)
    : Type 0 where
  pub nodes : List WorldNode
  pub stops : StopsIn (record w { nodes = ns }) e l (record u { nodes = nodes })
  pub alike : AreAlike es u.nodes nodes

left_down : (l : Left) (notes : List (Note Value)) (noted : Option (Note Value))
    → (left_node l notes noted).up ≡ false
left_down left.None notes noted = refl
left_down (left.Torn bytes) notes noted = refl
left_down left.Whole notes noted = refl

stop_so : (w : World) (ns : List WorldNode) (e : Event) (l : Left) (es : List Event) (u : World)
    → AreAlike es w.nodes ns → StopsIn w e l u → StopsSo w ns e l es u
stop_so w ns e l es u like s =
    let k = node_of e in
    let z = left_node l s.node.notes s.taken.answer.note in
    let there = stands_in_both es w.nodes ns like k s.node s.acts.is_up.stands s.acts.is_up.up in
    record {
      nodes = slice_set ns k z;
      stops = record {
        node = s.node;
        taken = s.taken;
        step = s.step;
        acts = acts_so w ns e s.node s.taken there s.acts;
        room = room_so w ns k s.node l s.taken.answer.note s.room;
        leaves = ap (λ (x : World). record x { nodes = slice_set ns k z }) s.leaves;
      };
      alike = subst (λ xs. AreAlike es xs (slice_set ns k z))
          (sym (ap (λ (x : World). x.nodes) s.leaves))
          (put_in_both es w.nodes ns like k z z (inl refl));
    }

pub other_left : (w : World) (ns : List WorldNode) (e : Event) (l : Left) (es : List Event) (u t : World)
    → AreAlike es w.nodes ns → NeverStarts (node_of e) es → StopsIn w e left.None u
    → StopsIn w e l t → StopsSo w ns e l es u
other_left w ns e l es u t like never s r =
    let k = node_of e in
    let a = down_node s.node.notes [] in
    let z = left_node l r.node.notes r.taken.answer.note in
    let there = stands_in_both es w.nodes ns like k r.node r.acts.is_up.stands r.acts.is_up.up in
    record {
      nodes = slice_set ns k z;
      stops = record {
        node = r.node;
        taken = r.taken;
        step = r.step;
        acts = acts_so w ns e r.node r.taken there r.acts;
        room = room_so w ns k r.node l r.taken.answer.note r.room;
        leaves = ap (λ (x : World). record x { nodes = slice_set ns k z }) s.leaves;
      };
      alike = subst (λ xs. AreAlike es xs (slice_set ns k z))
          (sym (ap (λ (x : World). x.nodes) s.leaves))
          (put_in_both es w.nodes ns like k a z
          (inr (refl, left_down l r.node.notes r.taken.answer.note, never)));
    }

-- a stop that could leave the whole note could leave anything
pub left_so : (w : World) (e : Event) (u : World) → StopsIn w e left.None u
    → ((t : World) × StopsIn w e left.Whole t) → (l : Left) → (t : World) × StopsIn w e l t
left_so w e u s all left.None = (u, s)
left_so w e u s all (left.Torn bytes) = (
  with_node w (node_of e) (down_node s.node.notes bytes),
  record {
    node = s.node;
    taken = s.taken;
    step = s.step;
    acts = s.acts;
    room = tt;
    leaves = refl;
  },
)
left_so w e u s all left.Whole = all

-- a stop between two steps
rests_so : (w : World) (ns : List WorldNode) (n : ℕ) (es : List Event) (u : World)
    → AreAlike es w.nodes ns → Stops w n u → GoesOnSo w ns (Stop n) es u
rests_so w ns n es u like s =
    let z = down_node s.node.notes [] in
    record {
      nodes = slice_set ns n z;
      happens = record {
        node = s.node;
        is_up = record {
          stands = stands_in_both es w.nodes ns like n s.node s.is_up.stands s.is_up.up;
          up = s.is_up.up;
        };
        leaves = ap (λ (x : World). record x { nodes = slice_set ns n z }) s.leaves;
      };
      alike = subst (λ xs. AreAlike es xs (slice_set ns n z))
          (sym (ap (λ (x : World). x.nodes) s.leaves))
          (put_in_both es w.nodes ns like n z z (inl refl));
    }

-- a restart is not of a lost node
restarts_so : (w : World) (ns : List WorldNode) (n : ℕ) (es : List Event) (u : World)
    → AreAlike (Restart n ∷ es) w.nodes ns → Restarts w n u → GoesOnSo w ns (Restart n) es u
restarts_so w ns n es u like s =
    let z = restarted_node s.node.notes in
    let y = get_some ns n
    (omega (arith, slice_get_within w.nodes n s.node s.stands, like.count)) in
    let there : slice_get ns n ≡ Some s.node = ⊎_elim (λ same. y.1 ∙ ap (λ x. Some x) same)
    (λ d. absurd (d.2 0 (Restart n) (omega arith) refl)) (like.each n s.node y.0 s.stands y.1) in
    record {
      nodes = slice_set ns n z;
      happens = record {
        node = s.node;
        stands = there;
        down = s.down;
        leaves = ap (λ (x : World). record x { nodes = slice_set ns n z }) s.leaves;
      };
      alike = subst (λ xs. AreAlike es xs (slice_set ns n z))
          (sym (ap (λ (x : World). x.nodes) s.leaves))
          (put_in_both es w.nodes ns (one_less (Restart n) es w.nodes ns like) n z z (inl refl));
    }

pub event_so : (w : World) (ns : List WorldNode) (e : Event) (es : List Event) (u : World)
    → AreAlike (e ∷ es) w.nodes ns → Happens w e u → GoesOnSo w ns e es u
event_so w ns (Claims n path host above) es u like h =
    let r = step_so w ns (Claims n path host above) es u
    (one_less (Claims n path host above) es w.nodes ns like) h in
    record { nodes = r.nodes; happens = r.steps; alike = r.alike }
event_so w ns (Built n path files) es u like h =
    let r = step_so w ns (Built n path files) es u
    (one_less (Built n path files) es w.nodes ns like) h in
    record { nodes = r.nodes; happens = r.steps; alike = r.alike }
event_so w ns (Failed n path) es u like h =
    let r = step_so w ns (Failed n path) es u (one_less (Failed n path) es w.nodes ns like) h in
    record { nodes = r.nodes; happens = r.steps; alike = r.alike }
event_so w ns (Nudge n) es u like h =
    let r = step_so w ns (Nudge n) es u (one_less (Nudge n) es w.nodes ns like) h in
    record { nodes = r.nodes; happens = r.steps; alike = r.alike }
event_so w ns (Ask n path) es u like h =
    let r = step_so w ns (Ask n path) es u (one_less (Ask n path) es w.nodes ns like) h in
    record { nodes = r.nodes; happens = r.steps; alike = r.alike }
event_so w ns (Deliver d n) es u like h =
    let r = step_so w ns (Deliver d n) es u (one_less (Deliver d n) es w.nodes ns like) h in
    record { nodes = r.nodes; happens = r.steps; alike = r.alike }
event_so w ns (Stop n) es u like h =
    rests_so w ns n es u (one_less (Stop n) es w.nodes ns like) h
event_so w ns (StopIn e l) es u like h =
    let r = stop_so w ns e l es u (one_less (StopIn e l) es w.nodes ns like) h in
    record { nodes = r.nodes; happens = r.stops; alike = r.alike }
event_so w ns (Restart n) es u like h = restarts_so w ns n es u like h
