-- An event leaves at most one world, or is refused with one fault.
use Rattle.std.proofs.Common.{◌≡◌, ◌&&◌, ℕ, Bool, true, false, not, nat_le, List, [], ◌∷◌, length, None, Some, Result, Ok, Err, slice_get, refl, sym, ap, ap₂, subst, ◌∙◌, inl, inr, true≢false}
use Rattle.std.proofs.lemmas.Bool.{lt-leb}
use Rattle.faults.specs.Answers.{first_that_applies}
use Rattle.engine.specs.declared.Letter.{Letter}
use Rattle.protocol.specs.Events as events
use Rattle.protocol.specs.Events.{Event, is_step}
use Rattle.node.specs.OnLog.{IsFull}
use Rattle.node.specs.Step as steps
use Rattle.node.specs.Step.{Asked, Comes, Does, Taken, Takes, after, step, unit_asked}
use Rattle.protocol.specs.declared.event.Left.{Left}
use Rattle.protocol.specs.declared.event.Left.TheVariants as left
use Rattle.node.specs.declared.fault.NodeFault.{NodeFault}
use Rattle.package_record.specs.Content.{Content}
use Rattle.protocol.specs.Step.{IsLetterOf, answer}
use Rattle.protocol.proofs.OneAnswer.{one_answer}
use Rattle.world.specs.Happening.{Acts, Asks, Happens, HasRoomFor, IsRefused, IsRefusedByNode, IsUp, NodeRefuses, Restarts, Steps, Stops, StopsIn, fault_before, is_bad_stop, is_restart, is_up, lacks_datagram, leaves_note, left_node, up_of}
use Rattle.world.specs.Lists.{IsListAfter}
use Rattle.world.specs.Sent.{with_sends}
use Rattle.world.specs.World.{World, WorldNode, down_node, member_at, node_at, restarted_node, up_node, with_node}
use Rattle.world.specs.declared.fault.WorldFault.{WorldFault}
use Rattle.world.specs.declared.fault.WorldFault.TheVariants as fault
use Rattle.one_list.proofs.nodes.NodesAsMembers.{get_within}
use Rattle.one_list.proofs.nodes.EqualParts.{some_same}

-- a node's step that is taken
abbrev steps_ok : Taken → Result Taken NodeFault
steps_ok t = Ok t

abbrev refuses_with : NodeFault → Result Taken NodeFault
refuses_with f = Err f

-- ---- what a node is asked, and its answer

-- an event asks exactly one thing
one_asked : (w : World) (e : Event) (a b : Asked) → Asks w e a → Asks w e b → a ≡ b
one_asked w (events.Claim n path host above) a b x y = x ∙ sym y
one_asked w (events.Built n path files) a b x y = x ∙ sym y
one_asked w (events.Failed n path) a b x y = x ∙ sym y
one_asked w (events.Nudge n) a b x y = x ∙ sym y
one_asked w (events.Ask n path) a b x y = x ∙ sym y
one_asked w (events.Deliver d n) a b x y = x.2 ∙ ap Comes (some_same x.0 y.0 (sym x.1 ∙ y.1))
    ∙ sym y.2
one_asked w (events.Stop n) a b x y = absurd x
one_asked w (events.StopIn e l) a b x y = one_asked w e a b x y
one_asked w (events.Restart n) a b x y = absurd x

-- so a node takes one step, or refuses with one fault
steps_alike : (w : World) (k : ℕ) (x : WorldNode) (asked : Asked) (l m : Letter)
    → IsLetterOf (member_at w k x) (unit_asked (node_at w k x) asked) l
    → IsLetterOf (member_at w k x) (unit_asked (node_at w k x) asked) m
    → step (node_at w k x) l asked ≡ step (node_at w k x) m asked
steps_alike w k x (Comes text) l m first second = refl
steps_alike w k x (Does input) l m first second =
    ap (steps.taken x.pieces)
    (one_answer (member_at w k x) input (answer (member_at w k x) l input)
    (answer (member_at w k x) m input)
    (record { letter = l; shown = first; right = refl })
    (record { letter = m; shown = second; right = refl }))

one_right : (w : World) (k : ℕ) (x : WorldNode) (asked : Asked) (a b : Result Taken NodeFault)
    → Takes (node_at w k x) asked a → Takes (node_at w k x) asked b → a ≡ b
one_right w k x asked a b first second =
    first.right_is
    ∙ steps_alike w k x asked first.letter second.letter first.shown second.shown
    ∙ sym second.right_is

-- ---- the node, and its step

-- an event has one node
one_node : (w : World) (k : ℕ) (x y : WorldNode) → slice_get w.nodes k ≡ Some x
    → slice_get w.nodes k ≡ Some y → x ≡ y
one_node w k x y a b = some_same x y (sym a ∙ b)

-- What a node takes when it is asked, or why it refuses.
record IsAnswer (w : World) (e : Event) (x : WorldNode) (r : Result Taken NodeFault) : Type 0 where
  stands : slice_get w.nodes (events.node_of e) ≡ Some x
  asked : Asked
  asks : Asks w e asked
  takes : Takes (node_at w (events.node_of e) x) asked r

acted : (w : World) (e : Event) (x : WorldNode) (t : Taken) → Acts w e x t → IsAnswer w e x (Ok t)
acted w e x t a =
    record { stands = a.is_up.stands; asked = a.asked; asks = a.asks; takes = a.takes }

-- there is only one answer
one_answered : (w : World) (e : Event) (x y : WorldNode) (r q : Result Taken NodeFault)
    → IsAnswer w e x r → IsAnswer w e y q → (x ≡ y) × (r ≡ q)
one_answered w e x y r q a b =
    let node = one_node w (events.node_of e) x y a.stands b.stands in
    let same = one_asked w e a.asked b.asked a.asks b.asks in
    let there = subst (λ z. Takes (node_at w (events.node_of e) z) b.asked r) node
    (subst (λ z. Takes (node_at w (events.node_of e) x) z r) same a.takes) in
    (node, one_right w (events.node_of e) y b.asked r q there b.takes)

took_same : (a b : Taken) → steps_ok a ≡ steps_ok b → a ≡ b
took_same a b e = cc

-- so two steps of an event are equal
one_act : (w : World) (e : Event) (x y : WorldNode) (t u : Taken) → Acts w e x t → Acts w e y u
    → (x ≡ y) × (t ≡ u)
one_act w e x y t u a b =
    let same = one_answered w e x y (Ok t) (Ok u) (acted w e x t a)
    (acted w e y u b) in (same.0, took_same t u same.1)

-- ---- one world follows

-- two worlds after a step are equal, if only one list may follow
pub one_step : (w a b : World) (e : Event) (s : Steps w e a) (q : Steps w e b)
    → ((list : List Content) → IsListAfter w (with_sends w.sent s.taken.answer.sends) list
    → list ≡ a.agreed) → a ≡ b
one_step w a b e s q only =
    let same = one_act w e s.node q.node s.taken q.taken s.acts q.acts in
    let list : b.agreed ≡ a.agreed = only b.agreed
    (subst (λ (t : Taken). IsListAfter w (with_sends w.sent t.answer.sends) b.agreed)
    (sym same.1) q.list) in
    s.leaves
    ∙ ap (λ l. left_so s.node s.taken l) (sym list)
    ∙ ap₂ (λ x t. left_so x t b.agreed) same.0 same.1
    ∙ sym q.leaves
  where
    left_so : WorldNode → Taken → List Content → World
    left_so x t list = record (with_node w (events.node_of e)
        (up_node (after (node_at w (events.node_of e) x) t))) {
          sent =
              with_sends w.sent t.answer.sends;
          agreed = list;
        }

pub one_cut : (w a b : World) (e : Event) (l : Left) → StopsIn w e l a → StopsIn w e l b → a ≡ b
one_cut w a b e l s q =
    let same = one_act w e s.node q.node s.taken q.taken s.acts q.acts in
    s.leaves ∙ ap₂ (λ (x : WorldNode) (t : Taken). with_node w (events.node_of e)
    (left_node l x.notes t.answer.note)) same.0 same.1 ∙ sym q.leaves

pub one_stop : (w a b : World) (n : ℕ) → Stops w n a → Stops w n b → a ≡ b
one_stop w a b n s q =
    s.leaves ∙ ap (λ (x : WorldNode). with_node w n (down_node x.notes []))
    (one_node w n s.node q.node s.is_up.stands q.is_up.stands) ∙ sym q.leaves

pub one_restart : (w a b : World) (n : ℕ) → Restarts w n a → Restarts w n b → a ≡ b
one_restart w a b n s q =
    s.leaves ∙ ap (λ (x : WorldNode). with_node w n (restarted_node x.notes))
    (one_node w n s.node q.node s.stands q.stands) ∙ sym q.leaves

-- ---- one answer

-- the node refuses with only one fault
refused : (w : World) (e : Event) (f : NodeFault) (r : NodeRefuses w e f)
    → IsAnswer w e r.node (Err f)
refused w e f r =
    record { stands = r.is_up.stands; asked = r.asked; asks = r.asks; takes = r.refuses }

never_both : (t : Taken) (f : NodeFault) → steps_ok t ≡ Err f → ⊥
never_both t f e = cc

faults_same : (f g : NodeFault) → refuses_with f ≡ refuses_with g → f ≡ g
faults_same f g e = cc

pub one_refusal : (w : World) (e : Event) (f g : WorldFault) → IsRefused w e f → IsRefused w e g
    → f ≡ g
one_refusal w e f g (inl a) (inl b) = some_same f g (sym a ∙ b)
one_refusal w e f g (inl a) (inr b) = absurd (let no : Some f ≡ None = sym a ∙ b.0 in cc)
one_refusal w e f g (inr a) (inl b) = absurd (let no : Some g ≡ None = sym b ∙ a.0 in cc)
one_refusal w e f g (inr (none, inl (r, x, is))) (inr (also, inl (q, y, was))) =
    let same = one_answered w e x.node y.node (Err r) (Err q) (refused w e r x) (refused w e q y) in
    is ∙ ap fault.Node (faults_same r q same.1) ∙ sym was
one_refusal w e f g (inr (none, inl (r, x, is))) (inr (also, inr (full, was))) =
    absurd (never_both full.taken r
    (sym (one_answered w e x.node full.node (Err r) (Ok full.taken) (refused w e r x)
    (acted w e full.node full.taken full.acts)).1))
one_refusal w e f g (inr (none, inr (full, is))) (inr (also, inl (q, y, was))) =
    absurd (never_both full.taken q
    (one_answered w e full.node y.node (Ok full.taken) (Err q)
    (acted w e full.node full.taken full.acts) (refused w e q y)).1)
one_refusal w e f g (inr (none, inr (full, is))) (inr (also, inr (again, was))) = is ∙ sym was

-- ---- what happens is not refused

-- a node at an index is within the list
within_nodes : (w : World) (k : ℕ) (x : WorldNode) → slice_get w.nodes k ≡ Some x
    → nat_le (length w.nodes) k ≡ false
within_nodes w k x e = let lt = get_within w.nodes k x e in lt-leb (length w.nodes) k lt

-- what is tested first, if no test applies
no_test : (a b c d e : Bool) → a ≡ false → b ≡ false → c ≡ false → d ≡ false → e ≡ false
    → (x y z u v : WorldFault)
    → first_that_applies ((a, x) ∷ (b, y) ∷ (c, z) ∷ (d, u) ∷ (e, v) ∷ []) ≡ None
no_test a b c d e ea eb ec ed ee x y z u v =
    ap (λ t. first_that_applies ((t, x) ∷ (b, y) ∷ (c, z) ∷ (d, u) ∷ (e, v) ∷ [])) ea
    ∙ ap (λ t. first_that_applies ((t, y) ∷ (c, z) ∷ (d, u) ∷ (e, v) ∷ [])) eb
    ∙ ap (λ t. first_that_applies ((t, z) ∷ (d, u) ∷ (e, v) ∷ [])) ec
    ∙ ap (λ t. first_that_applies ((t, u) ∷ (e, v) ∷ [])) ed
    ∙ ap (λ t. first_that_applies ((t, v) ∷ [])) ee

-- an event at a node that is up passes the tests if it isn't a restart
up_passes : (w : World) (e : Event) (x : WorldNode) → IsUp w e x → is_bad_stop e ≡ false
    → is_restart e ≡ false → lacks_datagram w e ≡ false → fault_before w e ≡ None
up_passes w e x up good none there =
    no_test (is_bad_stop e) (nat_le (length w.nodes) (events.node_of e))
    (not (is_restart e) && not (is_up w (events.node_of e)))
    (is_restart e && is_up w (events.node_of e)) (lacks_datagram w e) good
    (within_nodes w (events.node_of e) x up.stands)
    (ap (λ b. not (is_restart e) && not b) on ∙ both_false (not (is_restart e)))
    (ap (λ b. b && is_up w (events.node_of e)) none) there
    (fault.BadTrace 0) fault.NoSuchNode fault.NodeDown fault.NodeUp fault.NoSuchDatagram
  where
    on : is_up w (events.node_of e) ≡ true
    on = ap up_of up.stands ∙ up.up

    both_false : (b : Bool) → (b && false) ≡ false
    both_false true = refl
    both_false false = refl

-- a datagram that is delivered was sent
sent_there : (w : World) (e : Event) (a : Asked) → Asks w e a → lacks_datagram w e ≡ false
sent_there w (events.Claim n path host above) a asks = refl
sent_there w (events.Built n path files) a asks = refl
sent_there w (events.Failed n path) a asks = refl
sent_there w (events.Nudge n) a asks = refl
sent_there w (events.Ask n path) a asks = refl
sent_there w (events.Deliver d n) a asks = let lt =
    get_within w.sent d asks.0 asks.1 in lt-leb (length w.sent) d lt
sent_there w (events.Stop n) a asks = refl
sent_there w (events.StopIn e l) a asks = sent_there w e a asks
sent_there w (events.Restart n) a asks = refl

step_passes : (w : World) (e : Event) (x : WorldNode) (t : Taken) → is_bad_stop e ≡ false
    → is_restart e ≡ false → Acts w e x t → fault_before w e ≡ None
step_passes w e x t good none a = up_passes w e x a.is_up good none (sent_there w e a.asked a.asks)

-- an event that passes the tests and is taken is refused by no node
not_by_node : (w : World) (e : Event) (x : WorldNode) (t : Taken) (f : WorldFault)
    → IsAnswer w e x (Ok t)
    → (leaves_note e ≡ true → IsFull (node_at w (events.node_of e) x) t.answer.note → ⊥)
    → IsRefusedByNode w e f → ⊥
not_by_node w e x t f a room (inl (r, y, is)) =
    never_both t r (one_answered w e x y.node (Ok t) (Err r) a (refused w e r y)).1
not_by_node w e x t f a room (inr (full, is)) =
    let same = one_answered w e x full.node (Ok t) (Ok full.taken) a
    (acted w e full.node full.taken full.acts) in
    room full.noted (subst
    (λ (z : WorldNode). IsFull (node_at w (events.node_of e) z) t.answer.note) (sym same.0)
    (subst (λ (z : Taken). IsFull (node_at w (events.node_of e) full.node) z.answer.note)
    (sym (took_same t full.taken same.1)) full.full))

refused_not : (w : World) (e : Event) (f : WorldFault) → fault_before w e ≡ None
    → (IsRefusedByNode w e f → ⊥) → IsRefused w e f → ⊥
refused_not w e f none not_so (inl before) =
    absurd (let no : None ≡ Some f = sym none ∙ before in cc)
refused_not w e f none not_so (inr (also, by)) = not_so by

step_not_refused : (w v : World) (e : Event) (f : WorldFault) → is_bad_stop e ≡ false
    → is_restart e ≡ false → Steps w e v → IsRefused w e f → ⊥
step_not_refused w v e f good none s =
    refused_not w e f (step_passes w e s.node s.taken good none s.acts)
    (not_by_node w e s.node s.taken f (acted w e s.node s.taken s.acts)
    (λ noted full. s.room full))

cut_not_refused : (w v : World) (e : Event) (l : Left) (f : WorldFault) → StopsIn w e l v
    → IsRefused w (events.StopIn e l) f → ⊥
cut_not_refused w v e l f s =
    refused_not w (events.StopIn e l) f
    (up_passes w (events.StopIn e l) s.node
    (record { stands = s.acts.is_up.stands; up = s.acts.is_up.up }) (ap not s.step) refl
    (sent_there w e s.acts.asked s.acts.asks))
    (not_by_node w (events.StopIn e l) s.node s.taken f
    (record {
      stands = s.acts.is_up.stands;
      asked = s.acts.asked;
      asks = s.acts.asks;
      takes =
          s.acts.takes;
    }) (room l s.room))
  where
    room : (l : Left) → HasRoomFor w (events.node_of e) s.node l s.taken.answer.note
        → leaves_note (events.StopIn e l) ≡ true
        → IsFull (node_at w (events.node_of e) s.node) s.taken.answer.note → ⊥
    room left.None has noted full = absurd (true≢false (sym noted))
    room (left.Torn bytes) has noted full = absurd (true≢false (sym noted))
    room left.Whole has noted full = has full

stop_not_refused : (w v : World) (n : ℕ) (f : WorldFault) → Stops w n v
    → IsRefused w (events.Stop n) f → ⊥
stop_not_refused w v n f s =
    refused_not w (events.Stop n) f (up_passes w (events.Stop n) s.node s.is_up refl refl refl) by
  where
    by : IsRefusedByNode w (events.Stop n) f → ⊥
    by (inl (r, x, is)) = x.asks
    by (inr (full, is)) = full.acts.asks

restart_not_refused : (w v : World) (n : ℕ) (f : WorldFault) → Restarts w n v
    → IsRefused w (events.Restart n) f → ⊥
restart_not_refused w v n f s =
    refused_not w (events.Restart n) f
    (no_test false (nat_le (length w.nodes) n) false (true && is_up w n) false refl
    (within_nodes w n s.node s.stands) refl (ap up_of s.stands ∙ s.down) refl
    (fault.BadTrace 0) fault.NoSuchNode fault.NodeDown fault.NodeUp fault.NoSuchDatagram)
    by
  where
    by : IsRefusedByNode w (events.Restart n) f → ⊥
    by (inl (r, x, is)) = x.asks
    by (inr (full, is)) = full.acts.asks

-- What happens is not refused.
pub happens_not_refused : (w v : World) (e : Event) (f : WorldFault) → Happens w e v
    → IsRefused w e f → ⊥
happens_not_refused w v (events.Claim n path host above) f h =
    step_not_refused w v (events.Claim n path host above) f refl refl h
happens_not_refused w v (events.Built n path files) f h =
    step_not_refused w v (events.Built n path files) f refl refl h
happens_not_refused w v (events.Failed n path) f h =
    step_not_refused w v (events.Failed n path) f refl refl h
happens_not_refused w v (events.Nudge n) f h = step_not_refused w v (events.Nudge n) f refl refl h
happens_not_refused w v (events.Ask n path) f h =
    step_not_refused w v (events.Ask n path) f refl refl h
happens_not_refused w v (events.Deliver d n) f h =
    step_not_refused w v (events.Deliver d n) f refl refl h
happens_not_refused w v (events.Stop n) f h = stop_not_refused w v n f h
happens_not_refused w v (events.StopIn e l) f h = cut_not_refused w v e l f h
happens_not_refused w v (events.Restart n) f h = restart_not_refused w v n f h

-- One world follows, if only one list may follow a step.
pub one_follows : (w a b : World) (e : Event)
    → ((v : World) → is_step e ≡ true → (s : Steps w e v) (list : List Content)
    → IsListAfter w (with_sends w.sent s.taken.answer.sends) list → list ≡ v.agreed)
    → Happens w e a → Happens w e b → a ≡ b
one_follows w a b (events.Claim n path host above) only s q =
    one_step w a b (events.Claim n path host above) s q (only a refl s)
one_follows w a b (events.Built n path files) only s q =
    one_step w a b (events.Built n path files) s q (only a refl s)
one_follows w a b (events.Failed n path) only s q =
    one_step w a b (events.Failed n path) s q (only a refl s)
one_follows w a b (events.Nudge n) only s q = one_step w a b (events.Nudge n) s q (only a refl s)
one_follows w a b (events.Ask n path) only s q =
    one_step w a b (events.Ask n path) s q (only a refl s)
one_follows w a b (events.Deliver d n) only s q =
    one_step w a b (events.Deliver d n) s q (only a refl s)
one_follows w a b (events.Stop n) only s q = one_stop w a b n s q
one_follows w a b (events.StopIn e l) only s q = one_cut w a b e l s q
one_follows w a b (events.Restart n) only s q = one_restart w a b n s q
