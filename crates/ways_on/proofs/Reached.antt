-- In a reachable world, a step that a node takes happens, unless the log is full.
use Rattle.std.proofs.Common.{◌≡◌, ◌⊎◌, ◌&&◌, ℕ, Bool, true, false, not, nat_le, List, [], ◌∷◌, ◌++◌, length, Option, None, Some, slice_get, refl, ap, ◌∙◌, inl, inr, ⊎_elim, arith}
use Rattle.std.proofs.lemmas.Bool.{cases_lt, lt-leb}
use Rattle.claims.specs.AgreedList.{Act}
use Rattle.ballots.specs.declared.message.Note.{Note}
use Rattle.protocol.specs.Events as events
use Rattle.protocol.specs.Events.{Event, is_step}
use Rattle.faults.specs.Answers.{first_that_applies}
use Rattle.node.specs.OnLog.{IsFull}
use Rattle.node.specs.State.{NodeState}
use Rattle.node.specs.Step.{Taken}
use Rattle.package_record.specs.Content.{Content}
use Rattle.package_record.proofs.BuildsRead.{build_is_read}
use Rattle.protocol.specs.State.{Value}
use Rattle.engine.specs.Division.{Division}
use Rattle.ways_on.specs.Ways.{no_room}
use Rattle.world.specs.Happening.{Acts, Happens, IsRefused, Leads, Steps, fault_before, is_bad_stop, is_restart, is_up, lacks_datagram, leaves_note, stepped, up_of}
use Rattle.world.specs.World.{IsMade, World, WorldNode, node_at, start}
use Rattle.world.specs.declared.fault.WorldFault.{WorldFault}
use Rattle.world.specs.declared.fault.WorldFault.TheVariants as fault
use Rattle.world.proofs.Growth.{leads_later}
use Rattle.world.proofs.EventParts.{leads_together}
use Rattle.one_list.specs.Local.{AreLocal}
use Rattle.one_list.specs.Matches.{Matches}
use Rattle.one_list.specs.Mirrored.{after_all_acts}
use Rattle.one_list.proofs.nodes.NodesAsMembers.{get_within}
use Rattle.one_list.proofs.clauses.OneListOfRuns.{each_has_list, each_run_is_acts}

-- there is room for a note, or not
full_or_not : (n : NodeState) (noted : Option (Note Value)) → IsFull n noted ⊎ (IsFull n noted → ⊥)
full_or_not n None = inr (λ full. full)
full_or_not n (Some note) =
    ⊎_elim (λ full. inl full) (λ room. inr (λ full. omega (arith, full, room))) (cases_lt _ _)

-- if all of five tests fail, none applies
none_of_five : (a b c d e : Bool) (v x y z u : WorldFault) → a ≡ false → b ≡ false → c ≡ false
    → d ≡ false → e ≡ false
    → first_that_applies ((a, v) ∷ (b, x) ∷ (c, y) ∷ (d, z) ∷ (e, u) ∷ []) ≡ None
none_of_five a b c d e v x y z u ea eb ec ed ee =
    ap (λ t. first_that_applies ((t, v) ∷ (b, x) ∷ (c, y) ∷ (d, z) ∷ (e, u) ∷ [])) ea
    ∙ ap (λ t. first_that_applies ((t, x) ∷ (c, y) ∷ (d, z) ∷ (e, u) ∷ [])) eb
    ∙ ap (λ t. first_that_applies ((t, y) ∷ (d, z) ∷ (e, u) ∷ [])) ec
    ∙ ap (λ t. first_that_applies ((t, z) ∷ (e, u) ∷ [])) ed
    ∙ ap (λ t. first_that_applies ((t, u) ∷ [])) ee

-- A step at a node that is up passes the tests before the node is asked, if what is delivered was
-- sent.
pub none_before : (w : World) (e : Event) (x : WorldNode) → is_bad_stop e ≡ false
    → is_restart e ≡ false → slice_get w.nodes (events.node_of e) ≡ Some x → x.up ≡ true
    → lacks_datagram w e ≡ false → fault_before w e ≡ None
none_before w e x good other stands up there =
    let on : is_up w (events.node_of e) ≡ true = ap up_of stands ∙ up in
    none_of_five (is_bad_stop e) (nat_le (length w.nodes) (events.node_of e))
    (not (is_restart e) && not (is_up w (events.node_of e)))
    (is_restart e && is_up w (events.node_of e)) (lacks_datagram w e)
    (fault.BadTrace 0) fault.NoSuchNode fault.NodeDown fault.NodeUp fault.NoSuchDatagram
    good
    (lt-leb (length w.nodes) (events.node_of e) (get_within w.nodes (events.node_of e) x stands))
    (ap (λ b. not (is_restart e) && not b) on ∙ and_off (not (is_restart e)))
    (ap (λ b. b && is_up w (events.node_of e)) other)
    there
  where
    and_off : (b : Bool) → (b && false) ≡ false
    and_off true = refl
    and_off false = refl

module _ (division : Division) (weights : List ℕ) (made : IsMade division weights) where
  -- The world is reachable.
  pub record IsReached (w : World) : Type 0 where
    pub before : List Event
    pub led : Leads (start division weights) before w

  -- after one more event
  pub reached_then : (w v : World) (e : Event) → IsReached w → Happens w e v → IsReached v
  reached_then w v e r h = record {
    before = r.before ++ e ∷ [];
    led = leads_together (start division weights) w v r.before (e ∷ []) r.led (v, h, refl);
  }

  module _ (w : World) (r : IsReached w) where
    -- its acts
    abbrev pub its_acts : List (Act Value)
    its_acts = (each_run_is_acts division weights r.before w made r.led).0

    pub its_match : Matches w (after_all_acts division weights its_acts)
    its_match = (each_run_is_acts division weights r.before w made r.led).2

    pub its_local : AreLocal w
    its_local = (each_run_is_acts division weights r.before w made r.led).3

    pub its_own : (w.division ≡ division) × (w.weights ≡ weights)
    its_own = let later =
        leads_later (start division weights) w r.before r.led in (later.division, later.weights)

    -- A step that a node takes happens, unless the log has no room for its note.
    pub goes : (e : Event) (x : WorldNode) (t : Taken) → is_step e ≡ true → leaves_note e ≡ true
        → fault_before w e ≡ None → Acts w e x t
        → ((list : List Content) × Steps w e (stepped w (events.node_of e) x t list))
        ⊎ IsRefused w e no_room
    goes e x t step noted none acts = ⊎_elim
        (λ full. inr (inr (
          none,
          inr (
            record {
              node = x;
              taken = t;
              acts = acts;
              noted = noted;
              full = full;
            },
            refl,
          ),
        )))
        (λ room.
        let l = each_has_list each_run_is_acts build_is_read division weights r.before w e x t made
        r.led step acts in inl (
          l.0,
          record {
            node = x;
            taken = t;
            acts = acts;
            room = room;
            list = l.1;
            leaves = refl;
          },
        ))
        (full_or_not (node_at w (events.node_of e) x) t.answer.note)
