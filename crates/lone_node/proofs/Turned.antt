-- The choice is carried out.
use Rattle.std.proofs.Common.{◌≡◌, ◌⊎◌, ℕ, true, false, List, [], ◌∷◌, Option, None, Some, Ok, map, refl, sym, ap, subst, ◌∙◌, inr}
use Rattle.turn_rules.specs.Acts.{asked_by}
use Rattle.turn_rules.specs.Choice.{Chosen}
use Rattle.turn_rules.specs.Pending.{kept_after}
use Rattle.turn_rules.specs.declared.fault.TurnFault.{TurnFault}
use Rattle.turn_rules.specs.declared.fault.TurnFault.TheVariants as refused
use Rattle.node.proofs.Finishing.{note_is}
use Rattle.node.specs.Calls.{HasFilled, HasTried, LeavesItsNoteAtMost, left_by}
use Rattle.node.specs.OnLog.{HasRoomForNote, IsFull, IsOnLog, LacksRoom}
use Rattle.node.specs.State.{LoggedNode}
use Rattle.node.specs.Parcels.{datagrams_to}
use Rattle.node.specs.Step.{Asked, Comes, Does, Takes, after, note_in, taken_by}
use Rattle.turn_rules.specs.Offered.{WasOffered, parcels_from}
use Rattle.turn_rules.specs.CausedSteps.{IsCausedStep}
use Rattle.turn_rules.specs.declared.caused_step.CausedStep.{CausedStep}
use Rattle.datagram_ports.specs.Calls.{Call}
use Rattle.datagram_ports.specs.Kept.{GoesOnBy, KeepsVouching, Parcel}
use Rattle.lone_node.specs.Handed.{Handed}
use Rattle.lone_node.proofs.ByCase.{goes_no_more, goes_on}
use Rattle.lone_node.proofs.Coming.{choice_heard}
use Rattle.lone_node.specs.Faults.{IsTurnFault}
use Rattle.lone_node.specs.State.{SoloState, me_of}
use Rattle.lone_node.specs.Turn.{HasTaken, IsChosen, IsHeard, IsUntouched, LeavesAtMost}
use Rattle.lone_node.specs.inside.Turning.{HasChosen, IsMade, IsTakingFault, TookStep}
use Rattle.stable_record.specs.declared.disk.Disk.{Ghosts as Disk}
use Rattle.datagram_ports.specs.declared.port.Port.{Ghosts as Port}

module _ {D : Type 0} (n : LoggedNode D) (r : CausedStep) where
  -- what was prepared is what was chosen
  pub chosen_is : (c : Chosen) → IsMade n c (Some r)
      → c ≡ Some (n.node.member.me, asked_by r.act)
  chosen_is None made = absurd made
  chosen_is (Some x) made = λ i. Some (made.0 i, sym (made.1).asks i)

  -- its step is prepared
  pub readied_is : (c : Chosen) → IsMade n c (Some r) → IsCausedStep n (asked_by r.act) r
  readied_is None made = absurd made
  readied_is (Some x) made = subst (λ asked. IsCausedStep n asked r) (sym (made.1).asks) made.1

-- what was prepared for this node was prepared for an equal one
pub has_now : {D P : Type 0} (port : Port P) (old now mid : SoloState D P) (handed : Handed) → old ≡ now
    → (o : Option CausedStep) (r : CausedStep) → o ≡ Some r
    → HasChosen port old mid handed o
    → HasChosen port now mid handed (Some r)
has_now port old now mid handed same o r is has =
    subst (λ x. HasChosen port x mid handed (Some r)) same
    (subst (HasChosen port old mid handed) is has)

-- if that is the turn's choice and the node is unchanged
pub readied_so : {D P : Type 0} (port : Port P) (old mid : SoloState D P) (handed : Handed) (r : CausedStep)
    → HasChosen port old mid handed (Some r) → IsCausedStep mid.node (asked_by r.act) r
readied_so port old mid handed r has = subst (λ n. IsCausedStep n (asked_by r.act) r)
    (sym has.same) (readied_is old.node r has.chosen has.made)

-- a crash in what follows leaves what it leaves of the node before
pub moments_so : {D P : Type 0} (disk : Disk D)
    (old mid new : SoloState D P) → mid.node ≡ old.node → (asked : Asked)
    → LeavesAtMost disk mid new asked → LeavesAtMost disk old new asked
moments_so disk old mid new same asked = subst
    (λ n. disk.is_kept new.node.log.disk → IsOnLog disk.history n → LeavesItsNoteAtMost n.node asked
    (disk.history n.log.disk) (disk.history new.node.log.disk)) same

-- what is untouched afterwards was untouched before
pub untouched_so : {D P : Type 0} (disk : Disk D)
    (old mid new : SoloState D P) → mid.node ≡ old.node → (f : TurnFault)
    → ((k : ℕ) × (f ≡ refused.Down k)) ⊎ IsUntouched disk mid new
    → ((k : ℕ) × (f ≡ refused.Down k)) ⊎ IsUntouched disk old new
untouched_so disk old mid new same f = subst
    (λ n. ((k : ℕ) × (f ≡ refused.Down k))
    ⊎ (disk.is_kept new.node.log.disk → (n.node.stopped ≡ false → IsOnLog disk.history n)
    → disk.history new.node.log.disk ≡ disk.history n.log.disk)) same

-- a port that was offered nothing went through no call
none_sent : {P : Type 0} (does : P → Call → P → Type 0) (old new : P) → WasOffered does old [] new
    → new ≡ old
none_sent does old new ([], are, same) = same
none_sent does old new (a ∷ answers, are, went) =
    absurd (let no : ◌≡◌ {A = List Parcel} (a.0 ∷ map (λ x. x.0) answers) [] = are in cc)

-- what was vouched for still is
heard_on : {P : Type 0} (port : Port P) (old new : P) (asked : Asked)
    → KeepsVouching port.vouches old new → IsHeard port old asked → IsHeard port new asked
heard_on port old new (Does input) keeps is = tt
heard_on port old new (Comes text) keeps is = keeps text is

module _ {D P : Type 0} (port : Port P) (old mid new : SoloState D P) (handed : Handed) where
  -- nothing more was received, and then these were offered
  pub chosen_then : (c : Chosen) (parcels : List Parcel)
      → IsChosen port old mid handed [] c
      → GoesOnBy [] (port.given mid.port) (port.given new.port) → WasOffered port.does mid.port parcels new.port
      → IsChosen port old new handed parcels c
  chosen_then c parcels is nothing sent = record {
    answer = is.answer;
    looked = goes_no_more _ (port.given old.port) (port.given mid.port) (port.given new.port) is.looked nothing;
    between = is.between;
    received = is.received;
    sent = subst (λ p. WasOffered port.does p parcels new.port)
        (none_sent port.does is.between mid.port is.sent) sent;
    vouched = is.vouched;
    choice = is.choice;
  }

  module _ (r : CausedStep) (has : HasChosen port old mid handed (Some r))
      (nothing : GoesOnBy [] (port.given mid.port) (port.given new.port)) where
    pub chosen_so : (parcels : List Parcel) → WasOffered port.does mid.port parcels new.port
        → IsChosen port old new handed parcels (Some (me_of old, asked_by r.act))
    chosen_so parcels sent = subst (λ c. IsChosen port old new handed parcels c)
        (chosen_is old.node r has.chosen has.made)
        (chosen_then has.chosen parcels has.is_chosen nothing sent)

    -- the port vouches for bytes that the node took
    pub heard_so : KeepsVouching port.vouches mid.port new.port
        → IsHeard port new.port (asked_by r.act)
    heard_so keeps = heard_on port mid.port new.port (asked_by r.act) keeps
        (subst (λ p. IsHeard port p (asked_by r.act))
        (sym (none_sent port.does has.is_chosen.between mid.port has.is_chosen.sent))
        (choice_heard port old mid handed [] has.chosen has.is_chosen
        (asked_by r.act) (chosen_is old.node r has.chosen has.made)))

    -- the prepared step was taken
    pub taken_so : mid.pending ≡ old.pending
        → GoesOnBy [] (port.offered old.port) (port.offered mid.port)
        → TookStep port mid new (asked_by r.act)
        → HasTaken port old new handed (asked_by r.act)
    taken_so kept silent t =
        let sends = λ (n : LoggedNode D). parcels_from n.node.member.me
        (datagrams_to t.taken.answer.sends) in
        record {
          taken = t.taken;
          takes = subst (λ n. Takes n.node (asked_by r.act) (Ok t.taken)) has.same t.takes;
          room = subst (λ n. ¬ IsFull n.node t.taken.answer.note) has.same t.room;
          node = t.node ∙ ap (λ n. after n.node t.taken) has.same;
          pending = t.pending ∙ (λ i. kept_after (kept i) ((has.same i).node.member.me)
              ((has.same i).node.member) (asked_by r.act));
          offers = subst (λ n. GoesOnBy (sends n) (port.offered old.port) (port.offered new.port)) has.same
              (goes_on _ (port.offered old.port) (port.offered mid.port) (port.offered new.port) silent t.offers);
          chosen = chosen_so (sends old.node)
              (subst (λ n. WasOffered port.does mid.port (sends n) new.port) has.same t.calls);
        }

    filled : LacksRoom mid.node.log (note_in r.ready.step) → HasFilled old.node (asked_by r.act)
    filled lacks = record {
      step = taken_by old.node.node r.ready;
      takes = (readied_is old.node r has.chosen has.made).takes;
      lacks = subst (LacksRoom old.node.log) (sym (note_is old.node.node.member r.ready.step))
          (subst (λ n. LacksRoom n.log (note_in r.ready.step)) has.same lacks);
    }

    tried : HasRoomForNote mid.node.log (note_in r.ready.step)
        → HasTried old.node (asked_by r.act)
    tried room = record {
      step = taken_by old.node.node r.ready;
      takes = (readied_is old.node r has.chosen has.made).takes;
      room = subst (HasRoomForNote old.node.log)
          (sym (note_is old.node.node.member r.ready.step))
          (subst (λ n. HasRoomForNote n.log (note_in r.ready.step)) has.same room);
    }

    -- or it wasn't
    chosen_still : new.port ≡ mid.port
        → IsChosen port old new handed [] (Some (me_of old, asked_by r.act))
    chosen_still still = chosen_so [] ([], refl, still)

    pub refused_so : new.port ≡ mid.port → (leaves : Asked → Type 0) → leaves (asked_by r.act)
        → (f : TurnFault) → IsTakingFault mid.node new.node (note_in r.ready.step) f
        → IsTurnFault port old new handed leaves f
    refused_so still leaves left refused.Memory same =
        (asked_by r.act, chosen_still still, same ∙ ap (λ n. n.node) has.same)
    refused_so still leaves left (refused.Node g) (full, lacks, same) = (
      asked_by r.act,
      chosen_still still,
      record {
        cause = inr (full, filled lacks);
        leaves = same ∙ ap (λ n. n.node) has.same
            ∙ sym (ap (left_by old.node.node (asked_by r.act)) full);
      },
    )
    refused_so still leaves left (refused.Down k) (me, room, stops) = (
      asked_by r.act,
      chosen_still still,
      me ∙ ap (λ n. n.node.member.me) has.same,
      tried room,
      stops ∙ ap (λ n. record n.node { stopped = true }) has.same,
      left,
    )
    refused_so still leaves left refused.NotSent none = absurd none
    refused_so still leaves left refused.NotFresh none = absurd none
