-- Each event happens or is refused.
use Rattle.std.proofs.Common.{◌≡◌, ◌⊎◌, ℕ, Bool, true, false, not, ◌&&◌, nat_le, List, [], ◌∷◌, length, Option, None, Some, Result, Ok, Err, slice_get, slice_index_or, refl, sym, ap, subst, ◌∙◌, arith, inl, inr, ⊎_elim}
use Rattle.std.proofs.lemmas.Bool.{cases_lt, leb-false, true≢false}
use Rattle.faults.specs.Answers.{first_that_applies}
use Rattle.ballots.specs.declared.message.Note.{Note}
use Rattle.engine.specs.declared.Letter.{Letter}
use Rattle.engine.specs.declared.Letter.TheVariants.{Q}
use Rattle.engine.specs.State.{has_agreed}
use Rattle.engine.proofs.SomeLetter.{some_letter}
use Rattle.protocol.specs.Events as events
use Rattle.protocol.specs.Events.{Event, is_step}
use Rattle.protocol.specs.declared.event.Left.{Left}
use Rattle.protocol.specs.declared.event.Left.TheVariants as left
use Rattle.node.specs.OnLog.{IsFull}
use Rattle.node.specs.State.{NodeState}
use Rattle.node.specs.Step.{Asked, Comes, Does, IsAsked, Taken, Takes}
use Rattle.node.specs.declared.fault.NodeFault.{NodeFault}
use Rattle.node.specs.declared.fault.NodeFault.TheVariants as node_fault
use Rattle.package_record.specs.Content.{Content}
use Rattle.protocol.specs.State.{HasLetter, Value, engine_of}
use Rattle.protocol.specs.Step.{IsLetterOf}
use Rattle.protocol.specs.declared.input.Input.TheVariants as inputs
use Rattle.stable_record.specs.declared.log_fault.LogFault.TheVariants.{Full}
use Rattle.engine.specs.Division.{number_found, unit_at}
use Rattle.engine.specs.Units.{AreUnits}
use Rattle.world.specs.Happening.{Acts, Asks, Happens, HasRoomFor, IsRefused, IsUp, Steps, fault_before, is_bad_stop, is_restart, is_up, lacks_datagram, left_node, leaves_note, stepped, up_of}
use Rattle.world.proofs.Growth.{get_some}
use Rattle.world.specs.Lists.{IsListAfter}
use Rattle.world.specs.Sent.{with_sends}
use Rattle.world.specs.World.{World, WorldNode, down_node, member_at, node_at, restarted_node, with_node}
use Rattle.world.specs.declared.fault.WorldFault.{WorldFault}
use Rattle.world.specs.declared.fault.WorldFault.TheVariants as fault

-- ---- tests

-- what holds if none of five tests applies
record NoneApplies (a b c d e : Bool) : Type 0 where
  first : a ≡ false
  second : b ≡ false
  third : c ≡ false
  fourth : d ≡ false
  fifth : e ≡ false

none_applies : (a b c d e : Bool) (x y z u v : WorldFault)
    → first_that_applies ((a, x) ∷ (b, y) ∷ (c, z) ∷ (d, u) ∷ (e, v) ∷ []) ≡ None
    → NoneApplies a b c d e
none_applies true b c d e x y z u v h = absurd (let wrong : Some x ≡ None = h in cc)
none_applies false true c d e x y z u v h = absurd (let wrong : Some y ≡ None = h in cc)
none_applies false false true d e x y z u v h = absurd (let wrong : Some z ≡ None = h in cc)
none_applies false false false true e x y z u v h =
    absurd (let wrong : Some u ≡ None = h in cc)
none_applies false false false false true x y z u v h =
    absurd (let wrong : Some v ≡ None = h in cc)
none_applies false false false false false x y z u v h =
    record { first = refl; second = refl; third = refl; fourth = refl; fifth = refl }

not_false : (b : Bool) → not b ≡ false → b ≡ true
not_false true e = refl
not_false false e = absurd (true≢false e)

-- there is room for a note, or not
full_or_not : (n : NodeState) (noted : Option (Note Value)) → IsFull n noted
    ⊎ (IsFull n noted → ⊥)
full_or_not n None = inr (λ full. full)
full_or_not n (Some note) = ⊎_elim (λ full. inl full) (λ room. inr (λ full. omega (arith, full, room)))
    (cases_lt _ _)

-- a step asks for something
something_asked : (w : World) (e : Event) → is_step e ≡ true → lacks_datagram w e ≡ false
    → (asked : Asked) × Asks w e asked
something_asked w (events.Claim n path host above) is there =
    (Does (inputs.Claim path host above), refl)
something_asked w (events.Built n path files) is there = (Does (inputs.Built path files), refl)
something_asked w (events.Failed n path) is there = (Does (inputs.Failed path), refl)
something_asked w (events.Nudge n) is there = (Does inputs.Nudge, refl)
something_asked w (events.Ask n path) is there = (Does (inputs.Ask path), refl)
something_asked w (events.Deliver d n) is there =
    let t = get_some w.sent d (leb-false (length w.sent) d there) in (Comes t.0, (t.0, t.1, refl))
something_asked w (events.Stop n) is there = absurd (true≢false (sym is))
something_asked w (events.StopIn e l) is there = absurd (true≢false (sym is))
something_asked w (events.Restart n) is there = absurd (true≢false (sym is))

module _ (w : World) (units : AreUnits w.division.tree w.division.units) where
  -- each unit shows a letter at each node
  shown : (k : ℕ) (x : WorldNode) (u : ℕ) → (letter : Letter)
      × HasLetter (member_at w k x) u letter
  shown k x u = some_letter w.division.tree w.division.units (has_agreed (engine_of (member_at w k x)))
      (slice_index_or (unit_at w.division u).packages 0 0) units

  -- a node that is asked has an answer
  some_answer : (k : ℕ) (x : WorldNode) (asked : Asked) → (r : Result Taken NodeFault)
      × Takes (node_at w k x) asked r
  some_answer k x (Comes text) =
      (_, record { letter = Q; shown = tt; right_is = refl })
  some_answer k x (Does (inputs.Claim path host above)) =
      by (number_found w.division path) refl
    where
      by : (o : Option ℕ) → number_found w.division path ≡ o → (r : Result Taken NodeFault)
          × Takes (node_at w k x) (Does (inputs.Claim path host above)) r
      by None e = (
        _,
        record {
          letter = Q;
          shown = subst (λ o. IsLetterOf (member_at w k x) o Q) (sym e) tt;
          right_is = refl;
        },
      )
      by (Some u) e =
          let l = shown k x u in (
            _,
            record {
              letter = l.0;
              shown = subst (λ o. IsLetterOf (member_at w k x) o l.0) (sym e) l.1;
              right_is = refl;
            },
          )
  some_answer k x (Does (inputs.Built path files)) =
      (_, record { letter = Q; shown = tt; right_is = refl })
  some_answer k x (Does (inputs.Failed path)) =
      (_, record { letter = Q; shown = tt; right_is = refl })
  some_answer k x (Does inputs.Nudge) =
      (_, record { letter = Q; shown = tt; right_is = refl })
  some_answer k x (Does (inputs.Ask path)) =
      (_, record { letter = Q; shown = tt; right_is = refl })
  some_answer k x (Does (inputs.Message n)) =
      (_, record { letter = Q; shown = tt; right_is = refl })

  -- the event happens or is refused
  abbrev Goes : Event → Type 0
  Goes e = ((v : World) × Happens w e v) ⊎ ((f : WorldFault) × IsRefused w e f)

  -- ---- a step

  module _ (e : Event) (is : is_step e ≡ true) (none : fault_before w e ≡ None)
      (lists : (x : WorldNode) (t : Taken) → Acts w e x t → (list : List Content)
      × IsListAfter w (with_sends w.sent t.answer.sends) list)
      (can : (asked : Asked) → Asks w e asked → IsAsked asked) (noted : leaves_note e ≡ true) where
    step_goes : (x : WorldNode) → IsUp w e x → (asked : Asked) → Asks w e asked
        → ((v : World) × Steps w e v) ⊎ ((f : WorldFault) × IsRefused w e f)
    step_goes x up asked asks = by (some_answer (events.node_of e) x asked)
      where
        taken : (t : Taken) → Acts w e x t → ((v : World) × Steps w e v)
            ⊎ ((f : WorldFault) × IsRefused w e f)
        taken t acts = ⊎_elim
            (λ full. inr (
              fault.Node (node_fault.Log Full),
              inr (
                none,
                inr (
                  record {
                    node = x;
                    taken = t;
                    acts = acts;
                    noted = noted;
                    full = full;
                  },
                  refl,
                ),
              ),
            ))
            (λ room. let l = lists x t acts in inl (
              stepped w (events.node_of e) x t l.0,
              record {
                node = x;
                taken = t;
                acts = acts;
                room = room;
                list = l.1;
                leaves = refl;
              },
            ))
            (full_or_not (node_at w (events.node_of e) x) t.answer.note)

        by : (r : Result Taken NodeFault) × Takes (node_at w (events.node_of e) x) asked r
            → ((v : World) × Steps w e v) ⊎ ((f : WorldFault) × IsRefused w e f)
        by (Ok t, takes) = taken t (record {
          is_up = up;
          asked = asked;
          asks = asks;
          can_be = can asked asks;
          takes = takes;
        })
        by (Err f, takes) = inr (
          fault.Node f,
          inr (
            none,
            inl (
              f,
              record {
                node = x;
                is_up = up;
                asked = asked;
                asks = asks;
                refuses = takes;
              },
              refl,
            ),
          ),
        )

  -- ---- a stop inside a step

  module _ (e : Event) (l : Left) (is : is_step e ≡ true)
      (none : fault_before w (events.StopIn e l) ≡ None)
      (can : (asked : Asked) → Asks w e asked → IsAsked asked) where
    abbrev k : ℕ
    k = events.node_of e

    stop_taken : (x : WorldNode) (t : Taken) → Acts w e x t → Goes (events.StopIn e l)
    stop_taken x t acts = ⊎_elim
        (λ full. inr (
          fault.Node (node_fault.Log Full),
          inr (
            none,
            inr (
              record {
                node = x;
                taken = t;
                acts = record {
                  is_up = record { stands = acts.is_up.stands; up = acts.is_up.up };
                  asked = acts.asked;
                  asks = acts.asks;
                  can_be = acts.can_be;
                  takes = acts.takes;
                };
                noted = full.0;
                full = full.1;
              },
              refl,
            ),
          ),
        ))
        (λ room. inl (
          with_node w k (left_node l x.notes t.answer.note),
          record {
            node = x;
            taken = t;
            step = is;
            acts = acts;
            room = room;
            leaves = refl;
          },
        ))
        (room_or_not l)
      where
        room_or_not : (l : Left) → ((leaves_note (events.StopIn e l) ≡ true)
            × IsFull (node_at w k x) t.answer.note) ⊎ HasRoomFor w k x l t.answer.note
        room_or_not left.None = inr tt
        room_or_not (left.Torn bytes) = inr tt
        room_or_not left.Whole = ⊎_elim (λ full. inl (refl, full)) (λ room. inr room)
            (full_or_not (node_at w k x) t.answer.note)

    stop_goes : (x : WorldNode) → IsUp w e x → (asked : Asked) → Asks w e asked
        → Goes (events.StopIn e l)
    stop_goes x up asked asks = by (some_answer k x asked)
      where
        by : (r : Result Taken NodeFault) × Takes (node_at w k x) asked r
            → Goes (events.StopIn e l)
        by (Ok t, takes) = stop_taken x t (record {
          is_up = up;
          asked = asked;
          asks = asks;
          can_be = can asked asks;
          takes = takes;
        })
        by (Err f, takes) = inr (
          fault.Node f,
          inr (
            none,
            inl (
              f,
              record {
                node = x;
                is_up = record { stands = up.stands; up = up.up };
                asked = asked;
                asks = asks;
                refuses = takes;
              },
              refl,
            ),
          ),
        )

  -- ---- any event

  -- what is known if no test applies
  passed : (e : Event) → fault_before w e ≡ None
      → NoneApplies (is_bad_stop e) (nat_le (length w.nodes) (events.node_of e))
      (not (is_restart e) && not (is_up w (events.node_of e)))
      (is_restart e && is_up w (events.node_of e)) (lacks_datagram w e)
  passed e none = none_applies (is_bad_stop e) (nat_le (length w.nodes) (events.node_of e))
      (not (is_restart e) && not (is_up w (events.node_of e)))
      (is_restart e && is_up w (events.node_of e)) (lacks_datagram w e)
      (fault.BadTrace 0) fault.NoSuchNode fault.NodeDown fault.NodeUp fault.NoSuchDatagram none

  its_node : (e : Event) → fault_before w e ≡ None → (x : WorldNode)
      × (slice_get w.nodes (events.node_of e) ≡ Some x)
  its_node e none = get_some w.nodes (events.node_of e)
      (leb-false (length w.nodes) (events.node_of e) (passed e none).second)

  -- the node of an event that isn't a restart is up
  is_on : (e : Event) → is_restart e ≡ false → (none : fault_before w e ≡ None)
      → IsUp w e (its_node e none).0
  is_on e other none = record {
    stands = (its_node e none).1;
    up = sym (ap up_of (its_node e none).1)
        ∙ not_false (is_up w (events.node_of e))
        (sym (ap (λ b. not b && not (is_up w (events.node_of e))) other) ∙ (passed e none).third);
  }

  -- some list follows after each step
  abbrev HaveLists : Type 0
  HaveLists = (e : Event) → is_step e ≡ true → (x : WorldNode) (t : Taken) → Acts w e x t
      → (list : List Content) × IsListAfter w (with_sends w.sent t.answer.sends) list

  module _ (lists : HaveLists) (e : Event)
      (can : (asked : Asked) → Asks w e asked → IsAsked asked) where
    -- a step, if no test applies
    step_either : (is : is_step e ≡ true) → is_restart e ≡ false → leaves_note e ≡ true
        → (none : fault_before w e ≡ None)
        → ((v : World) × Steps w e v) ⊎ ((f : WorldFault) × IsRefused w e f)
    step_either is other noted none =
        let a = something_asked w e is (passed e none).fifth in
        step_goes e is none (lists e is) can noted (its_node e none).0 (is_on e other none) a.0 a.1

  module _ (lists : HaveLists) where
    goes_on : (e : Event) → ((asked : Asked) → Asks w e asked → IsAsked asked)
        → fault_before w e ≡ None → Goes e
    goes_on (events.Claim n path host above) can none =
        step_either lists (events.Claim n path host above) can refl refl refl none
    goes_on (events.Built n path files) can none =
        step_either lists (events.Built n path files) can refl refl refl none
    goes_on (events.Failed n path) can none =
        step_either lists (events.Failed n path) can refl refl refl none
    goes_on (events.Nudge n) can none =
        step_either lists (events.Nudge n) can refl refl refl none
    goes_on (events.Ask n path) can none =
        step_either lists (events.Ask n path) can refl refl refl none
    goes_on (events.Deliver d n) can none =
        step_either lists (events.Deliver d n) can refl refl refl none
    goes_on (events.Stop n) can none =
        let x = its_node (events.Stop n) none in
        inl (
          with_node w n (down_node (x.0).notes []),
          record {
            node = x.0;
            is_up = is_on (events.Stop n) refl none;
            leaves = refl;
          },
        )
    goes_on (events.StopIn e l) can none =
        let there = passed (events.StopIn e l) none in
        let is = not_false (is_step e) there.first in
        let up = is_on (events.StopIn e l) refl none in
        let a = something_asked w e is there.fifth in
        stop_goes e l is none can (its_node (events.StopIn e l) none).0
        (record { stands = up.stands; up = up.up }) a.0 a.1
    goes_on (events.Restart n) can none =
        let x = its_node (events.Restart n) none in
        inl (
          with_node w n (restarted_node (x.0).notes),
          record {
            node = x.0;
            stands = x.1;
            down = sym (ap up_of x.1) ∙ (passed (events.Restart n) none).fourth;
            leaves = refl;
          },
        )

    -- Each event happens or is refused.
    pub either_way : (e : Event) → ((asked : Asked) → Asks w e asked → IsAsked asked) → Goes e
    either_way e can = by (fault_before w e) refl
      where
        by : (o : Option WorldFault) → fault_before w e ≡ o → Goes e
        by None is = goes_on e can is
        by (Some f) is = inr (f, inl is)
