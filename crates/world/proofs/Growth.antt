-- What never changes, and what only grows.
use Rattle.std.proofs.Common.{◌≡◌, ◌<◌, ℕ, zero, suc, Bool, true, false, cond, List, [], ◌∷◌, ◌++◌, length, Option, None, Some, slice_get, slice_set, refl, sym, ap, subst, ◌∙◌, append_assoc, append-nil, arith, inl, inr, ⊎_elim}
use Rattle.std.specs.List.{list_any}
use Rattle.std.proofs.lemmas.List.{length-set}
use Rattle.std.proofs.lemmas.Option.{same_Some, slice_get_within}
use Rattle.faults.specs.Bytes.{Text}
use Rattle.protocol.specs.Events.{Event, Claim, Built, Failed, Nudge, Ask, Deliver, Stop, StopIn, Restart, node_of}
use Rattle.protocol.specs.declared.event.Left.{Left}
use Rattle.protocol.specs.declared.event.Left.TheVariants as left
use Rattle.claims.proofs.Nodes.{get_set}
use Rattle.ballots.specs.declared.message.Note.{Note}
use Rattle.node.specs.State.{with_note}
use Rattle.node.specs.Step.{after}
use Rattle.package_record.specs.Content.{Content}
use Rattle.protocol.specs.State.{Value}
use Rattle.engine.specs.Division.{Division}
use Rattle.world.specs.Happening.{Happens, Leads, Restarts, Steps, Stops, StopsIn, left_node}
use Rattle.world.specs.Headline.{AtEachMoment, IsBeginningOf, IsLater}
use Rattle.world.specs.Lists.{IsListAfter, has_path, with_build}
use Rattle.world.specs.World.{World, WorldNode, down_node, node_at, restarted_node, start, up_node, with_node}
use Rattle.world.proofs.EventParts.{leads_in_parts}
use Rattle.world.proofs.SentAdditions.{sends_behind}

-- an event is a step, a stop inside one, a stop between two, or a restart
pub by_kind : (P : World → World → Type 0)
    → ((w v : World) (e : Event) → Steps w e v → P w v)
    → ((w v : World) (e : Event) (l : Left) → StopsIn w e l v → P w v)
    → ((w v : World) (n : ℕ) → Stops w n v → P w v)
    → ((w v : World) (n : ℕ) → Restarts w n v → P w v)
    → (w v : World) (e : Event) → Happens w e v → P w v
by_kind P step within stop restart w v (Claim n path host above) h =
    step w v (Claim n path host above) h
by_kind P step within stop restart w v (Built n path packages) h =
    step w v (Built n path packages) h
by_kind P step within stop restart w v (Failed n path) h = step w v (Failed n path) h
by_kind P step within stop restart w v (Nudge n) h = step w v (Nudge n) h
by_kind P step within stop restart w v (Ask n path) h = step w v (Ask n path) h
by_kind P step within stop restart w v (Deliver d n) h = step w v (Deliver d n) h
by_kind P step within stop restart w v (Stop n) h = stop w v n h
by_kind P step within stop restart w v (StopIn e l) h = within w v e l h
by_kind P step within stop restart w v (Restart n) h = restart w v n h

-- the list before an event is a prefix of the list after it
with_build_longer : (list : List Content) (build : Value)
    → IsBeginningOf list (with_build list build)
with_build_longer list build = by_case (list_any (λ r. has_path list r.path) build)
  where
    by_case : (b : Bool) → IsBeginningOf list (cond b list (list ++ build))
    by_case true = ([], sym (append-nil list))
    by_case false = (build, refl)

pub list_longer : (w : World) (after : List Text) (list : List Content) → IsListAfter w after list
    → IsBeginningOf w.agreed list
list_longer w after list (inl (build, decided, e)) =
    let g = with_build_longer w.agreed build in (g.0, e ∙ g.1)
list_longer w after list (inr (none, e)) = ([], e ∙ sym (append-nil w.agreed))

-- ---- notes

-- the notes of each node only grow, by appending
abbrev NotesStay : World → World → Type 0
NotesStay w v =
    (k : ℕ) (x y : WorldNode) → slice_get w.nodes k ≡ Some x → slice_get v.nodes k ≡ Some y
    → (more : List (Note Value)) × (y.notes ≡ x.notes ++ more)

-- an index within a list has an element
pub get_some : {X : Type 0} (xs : List X) (k : ℕ) → k < length xs → (x : X)
    × (slice_get xs k ≡ Some x)
get_some [] k lt = absurd (omega (arith, lt))
get_some (x ∷ xs) zero lt = (x, refl)
get_some (x ∷ xs) (suc k) lt = get_some xs k (omega (arith, lt))

same_notes : (w v : World) → v ≡ w → NotesStay w v
same_notes w v e k x y before after =
    let same = same_Some y x (sym after ∙ ap (λ (u : World). slice_get u.nodes k) e ∙ before) in
    ([], ap (λ (z : WorldNode). z.notes) same ∙ sym (append-nil x.notes))

-- one node noted more, or not
one_notes : (w v : World) (n : ℕ) (x y : WorldNode) → slice_get w.nodes n ≡ Some x
    → v.nodes ≡ slice_set w.nodes n y
    → (more : List (Note Value)) × (y.notes ≡ x.notes ++ more) → NotesStay w v
one_notes w v n x y at nodes more k a b before after = ⊎_elim
    (λ h.
    let same = same_Some a x (sym before ∙ ap (slice_get w.nodes) h.0 ∙ at) in (
      more.0,
      ap (λ (z : WorldNode). z.notes) h.1 ∙ more.1
          ∙ ap (λ (z : WorldNode). z.notes ++ more.0) (sym same),
    ))
    (λ h.
    let same = same_Some b a (sym h.1 ∙ before) in
    ([], ap (λ (z : WorldNode). z.notes) same ∙ sym (append-nil a.notes)))
    (get_set w.nodes n k y b (ap (λ l. slice_get l k) (sym nodes) ∙ after))

with_note_longer : (notes : List (Note Value)) (noted : Option (Note Value))
    → (more : List (Note Value)) × (with_note notes noted ≡ notes ++ more)
with_note_longer notes None = ([], sym (append-nil notes))
with_note_longer notes (Some n) = (n ∷ [], refl)

left_longer : (l : Left) (notes : List (Note Value)) (noted : Option (Note Value))
    → (more : List (Note Value)) × ((left_node l notes noted).notes ≡ notes ++ more)
left_longer left.None notes noted = ([], sym (append-nil notes))
left_longer (left.Torn bytes) notes noted = ([], sym (append-nil notes))
left_longer left.Whole notes noted = with_note_longer notes noted

-- prefixes are transitive
behind_again : {X : Type 0} (a b c : List X) → (more : List X) × (b ≡ a ++ more) → (more : List X)
    × (c ≡ b ++ more)
    → (more : List X) × (c ≡ a ++ more)
behind_again a b c f s = (f.0 ++ s.0, s.1 ∙ ap (λ l. l ++ s.0) f.1 ∙ append_assoc a f.0 s.0)

notes_again : (w u v : World) → length u.nodes ≡ length w.nodes → NotesStay w u → NotesStay u v
    → NotesStay w v
notes_again w u v long f s k x y before after =
    let lt = slice_get_within w.nodes k x before in
    let between = get_some u.nodes k (omega (arith, lt, long)) in
    behind_again x.notes (between.0).notes y.notes (f k x between.0 before between.1)
    (s k between.0 y between.1 after)

-- ---- an event

-- only one node is replaced, and nothing was sent
one_other : (w v : World) (n : ℕ) (x y : WorldNode) → slice_get w.nodes n ≡ Some x
    → (more : List (Note Value)) × (y.notes ≡ x.notes ++ more) → v ≡ with_node w n y
    → IsLater w v
one_other w v n x y at more e = record {
  division = ap (λ u. u.division) e;
  weights = ap (λ u. u.weights) e;
  nodes = ap (λ u. length u.nodes) e ∙ length-set w.nodes n y;
  notes = one_notes w v n x y at (ap (λ u. u.nodes) e) more;
  sent = ([], ap (λ u. u.sent) e ∙ sym (append-nil w.sent));
  agreed = ([], ap (λ u. u.agreed) e ∙ sym (append-nil w.agreed));
}

step_later : (w v : World) (e : Event) → Steps w e v → IsLater w v
step_later w v e s =
    let more = sends_behind w.sent s.taken.answer.sends in
    record {
      division = ap (λ u. u.division) s.leaves;
      weights = ap (λ u. u.weights) s.leaves;
      nodes = ap (λ u. length u.nodes) s.leaves ∙ length-set w.nodes _ _;
      notes = one_notes w v (node_of e) s.node
          (up_node (after (node_at w (node_of e) s.node) s.taken)) s.acts.is_up.stands
          (ap (λ u. u.nodes) s.leaves) (with_note_longer s.node.notes s.taken.answer.note);
      sent = (more.0, ap (λ u. u.sent) s.leaves ∙ more.1);
      agreed = list_longer w _ v.agreed s.list;
    }

pub event_later : (w v : World) (e : Event) → Happens w e v → IsLater w v
event_later = by_kind IsLater step_later
    (λ w v e l s. one_other w v (node_of e) s.node _ s.acts.is_up.stands
    (left_longer l s.node.notes s.taken.answer.note) s.leaves)
    (λ w v n s. one_other w v n s.node (down_node s.node.notes []) s.is_up.stands
    ([], sym (append-nil s.node.notes)) s.leaves)
    (λ w v n s. one_other w v n s.node (restarted_node s.node.notes) s.stands
    ([], sym (append-nil s.node.notes)) s.leaves)

-- the same for several events, beginning with none
pub same_later : (w v : World) → v ≡ w → IsLater w v
same_later w v e = record {
  division = ap (λ u. u.division) e;
  weights = ap (λ u. u.weights) e;
  nodes = ap (λ u. length u.nodes) e;
  notes = same_notes w v e;
  sent = ([], ap (λ u. u.sent) e ∙ sym (append-nil w.sent));
  agreed = ([], ap (λ u. u.agreed) e ∙ sym (append-nil w.agreed));
}

then_later : (w u v : World) → IsLater w u → IsLater u v → IsLater w v
then_later w u v f s = record {
  division = s.division ∙ f.division;
  weights = s.weights ∙ f.weights;
  nodes = s.nodes ∙ f.nodes;
  notes = notes_again w u v f.nodes f.notes s.notes;
  sent = behind_again w.sent u.sent v.sent f.sent s.sent;
  agreed = behind_again w.agreed u.agreed v.agreed f.agreed s.agreed;
}

pub leads_later : (w v : World) (events : List Event) → Leads w events v → IsLater w v
leads_later w v [] l = same_later w v l
leads_later w v (e ∷ es) l = then_later w l.0 v (event_later w l.0 e l.1) (leads_later l.0 v es l.2)

-- ---- at every point

-- What holds at the start, and after each event, holds at every point.
pub each_moment : (division : Division) (weights : List ℕ) (P : List Event → World → Type 0)
    → ((events : List Event) (w : World) → Leads (start division weights) events w → P events w)
    → (events : List Event) (last : World) → Leads (start division weights) events last
    → AtEachMoment division weights events last P
each_moment division weights P each events last led early late e =
    let parts = leads_in_parts (start division weights) last early late
    (subst (λ es. Leads (start division weights) es last) e led) in
    (parts.0, parts.1, parts.2, each early parts.0 parts.1)

-- What holds at every point holds at the end.
pub at_end : (division : Division) (weights : List ℕ) (P : List Event → World → Type 0)
    (events : List Event) (last : World) → AtEachMoment division weights events last P
    → P events last
at_end division weights P events last each =
    let there = each events [] (sym (append-nil events)) in
    subst (P events) (sym there.2) there.3

-- what each event preserves, all events preserve
pub kept_on : (P : World → Type 0) → ((w v : World) (e : Event) → Happens w e v → P w → P v)
    → (w v : World) (events : List Event) → Leads w events v → P w → P v
kept_on P step w v [] l h = subst P (sym l) h
kept_on P step w v (e ∷ es) l h = kept_on P step l.0 v es l.2 (step w l.0 e l.1 h)

-- What follows from the events from there to the end holds at every point, too.
pub each_moment_to : (division : Division) (weights : List ℕ) (events : List Event) (last : World)
    (P : World → Type 0)
    → ((early late : List Event) (w : World) → Leads (start division weights) early w
    → Leads w late last → P w)
    → Leads (start division weights) events last
    → AtEachMoment division weights events last (λ early w. P w)
each_moment_to division weights events last P each led early late e =
    let parts = leads_in_parts (start division weights) last early late
    (subst (λ es. Leads (start division weights) es last) e led) in
    (parts.0, parts.1, parts.2, each early late parts.0 parts.1 parts.2)

-- The list at each point is a prefix of the list at the end.
pub list_grows : (division : Division) (weights : List ℕ) (events : List Event) (last : World)
    → Leads (start division weights) events last
    → AtEachMoment division weights events last (λ early w. IsBeginningOf w.agreed last.agreed)
list_grows division weights events last =
    each_moment_to division weights events last (λ w. IsBeginningOf w.agreed last.agreed)
    (λ early late w first then. (leads_later w last late then).agreed)
