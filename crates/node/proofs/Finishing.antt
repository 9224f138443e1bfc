-- A step that is taken, and the state after a refusal of the log.
use Rattle.std.proofs.Common.{◌≡◌, ◌⊎◌, ⊎_elim, inl, inr, ◌+◌, ◌++◌, All, arith, length, length-append, Bool, true, false, List, [], ◌∷◌, Option, None, Some, Ok, Err, Result, IsErrOf, option_map, refl, sym, subst, ap, ◌∙◌, if◌then◌else◌}
use Rattle.std.specs.Int.{to_be_bytes, w32}
use Rattle.std.specs.Option.{ForSome}
use Rattle.std.proofs.lemmas.Grind.{flat_map-append}
use Rattle.std.proofs.lemmas.List.{map-append}
use Rattle.std.proofs.lemmas.List.Elements.{All-head, All-tail}
use Rattle.faults.specs.Bytes.{Text}
use Rattle.claims.specs.Member.{Facts}
use Rattle.ballots.specs.declared.message.Note.{Note}
use Rattle.member.specs.Prepared.{Prepared, answer_by}
use Rattle.protocol.specs.Answers.{after as member_after}
use Rattle.protocol.specs.State.{State, Value}
use Rattle.stable_record.specs.Crash.{AllAlong, Leaves, at_first}
use Rattle.stable_record.specs.History.{History}
use Rattle.stable_record.specs.Log.{HasBeforeOrAfter, entries, entry, gate_place, open_gate}
use Rattle.stable_record.specs.declared.identity.Identity.{Identity}
use Rattle.stable_record.specs.declared.log.Log.{Log}
use Rattle.stable_record.specs.declared.log_fault.LogFault.TheVariants as log
use Rattle.wire.specs.Messages.{IsNote}
use Rattle.wire.specs.Spelling.{note_text}
use Rattle.node.proofs.Sent.{note_more}
use Rattle.node.proofs.ranges.Leaving.{facts_after}
use Rattle.node.specs.Calls.{HasTaken, IsLogCause}
use Rattle.node.specs.Laws.{OnlyRunningNodesTake, StepsAreTheMembers}
use Rattle.node.specs.OnLog.{HasRoomForNote, IsLogged, IsOnLog, LacksRoom, LeavesOneMoreAtMost, identity_of, texts_of}
use Rattle.stable_record.specs.OpenLog.{Holds}
use Rattle.node.specs.State.{IsNode, LoggedNode, NodeState, restored_member, with_note}
use Rattle.node.specs.Step.{IsReadyFor, ReadyStep, after, answer_then, changed, note_in, running_step, sends_in, taken_by}
use Rattle.node.specs.Parcels.{datagrams_to}
use Rattle.node.specs.declared.fault.NodeFault.{NodeFault}
use Rattle.node.specs.declared.prepared_step.Effects.{Effects}
use Rattle.node.specs.declared.fault.NodeFault.TheVariants as fault
use Rattle.node.specs.Noted.{notes_in}
use Rattle.node.specs.inside.Stepping.{GoesOnWith, HasRoomForText, IsNoteCause, LacksRoomFor, committed, entry_len, with_text}
use Rattle.wire.specs.declared.datagram.Piece.{Piece}

-- a node that takes a step is not stopped
pub takes_when_running : OnlyRunningNodesTake
takes_when_running n asked t takes = by n.stopped takes.right_is
  where
    by : (b : Bool) → Ok t ≡ (if b then Err fault.Stopped else running_step n.member n.pieces takes.letter asked) → b ≡ false
    by true e = absurd (let no : Ok t ≡ Err fault.Stopped = e in cc)
    by false e = refl

-- so a node that is ready for a step is not
pub runs : (n : NodeState) (r : ReadyStep) → IsReadyFor n r → n.stopped ≡ false
runs n r ready = takes_when_running n ready.asked (taken_by n r) ready.takes

-- ---- notes

-- the note is the last one, if there is one
pub last_note : (P : Note Value → Type 0) (notes : List (Note Value)) (note : Option (Note Value)) → All P (with_note notes note) → ForSome note P
last_note P notes None all = λ n e. absurd (let no : None ≡ Some n = e in cc)
last_note P notes (Some m) all = λ n e. subst P (let same : m ≡ n = cc in same) (at_end notes all)
  where
    at_end : (notes : List (Note Value)) → All P (notes ++ m ∷ []) → P m
    at_end [] all = All-head P m [] all
    at_end (k ∷ ks) all = at_end ks (All-tail P k (ks ++ m ∷ []) all)

-- the texts of the notes, with this one added
pub texts_with : (notes : List (Note Value)) (note : Option (Note Value)) → texts_of (with_note notes note) ≡ with_text (texts_of notes) (option_map note_text note)
texts_with notes None = refl
texts_with notes (Some n) = map-append note_text notes (n ∷ [])

-- the place of the gate after these texts and one more, if there is one
place_with : (i : Identity) (texts : List Text) (text : Option Text) → gate_place i (with_text texts text) ≡ gate_place i texts + entry_len text
place_with i texts None = omega arith
place_with i texts (Some t) =
    omega (arith, ap length (flat_map-append entry texts (t ∷ [])), length-append (entries texts) (entries (t ∷ [])), length-append (entry t) [], length-append (open_gate ∷ to_be_bytes w32 (length t)) t)

-- and they are parsed as these notes
pub notes_with : (texts : List Text) (note : Option (Note Value)) → ForSome note IsNote → notes_in (with_text texts (option_map note_text note)) ≡ with_note (notes_in texts) note
notes_with texts None is = refl
notes_with texts (Some n) is = note_more texts n (is n refl)

-- ---- the member

-- the answer and the step leave the member in the same state
pub members_step : StepsAreTheMembers
members_step n t is =
    sym (ap (λ (fs : List (Facts Value)). record n.member { facts = fs; claim = t.answer.claim }) (facts_after n.member n.notes t.answer.note is.restored))

-- the member's step is the node's
pub member_taken : (n : NodeState) (is : IsNode n) (p : Prepared)
    → member_after n.member (answer_by n.member p) ≡ record (restored_member n.member (with_note n.notes p.note)) { claim = (answer_by n.member p).claim }
member_taken n is p =
    ap (λ (fs : List (Facts Value)). record n.member { facts = fs; claim = (answer_by n.member p).claim }) (facts_after n.member n.notes p.note is.restored)

-- and it is unchanged if the member takes no step
pub member_stays : (n : NodeState) (is : IsNode n) → n.member ≡ record (restored_member n.member n.notes) { claim = n.member.claim }
member_stays n is = ap (λ (fs : List (Facts Value)). record n.member { facts = fs }) is.restored

-- ---- refusals

-- the log lacks room for the note's text
pub lacks : {D : Type 0} (l : Log D) (note : Option (Note Value)) → LacksRoomFor l (option_map note_text note) → LacksRoom l note
lacks l None over = over
lacks l (Some n) over = over

-- and it has room for the note if it has it for the text
pub has_room : {D : Type 0} (l : Log D) (note : Option (Note Value)) → HasRoomForText l (option_map note_text note) → HasRoomForNote l note
has_room l None room = room
has_room l (Some n) room = room

-- if it lacks room for the note, it does for the text
pub lacks_text : {D : Type 0} (l : Log D) (note : Option (Note Value)) → LacksRoom l note → LacksRoomFor l (option_map note_text note)
lacks_text l None over = over
lacks_text l (Some n) over = over

-- the fault of a result, or a default
abbrev fault_or : {T E : Type 0} → E → Result T E → E
fault_or f (Ok x) = f
fault_or f (Err e) = e

pub same_fault : {T U E : Type 0} (e f : E) → IsErrOf {T = T} {E = E} (Err e) f → IsErrOf {T = U} {E = E} (Err e) f
same_fault e f is = ap Err (ap (fault_or e) is)

-- ---- the step

-- the messages, the note and the job of a step
pub sends_are : (s : State) (step : Option Prepared) → (answer_then s step).sends ≡ sends_in step
sends_are s None = refl
sends_are s (Some p) = refl

pub note_is : (s : State) (step : Option Prepared) → (answer_then s step).note ≡ note_in step
note_is s None = refl
note_is s (Some p) = refl

-- the note can be encoded
pub noted_good : (n : NodeState) (r : ReadyStep) → IsNode (after n (taken_by n r)) → ForSome (note_in r.step) IsNote
noted_good n r leaves = subst (λ (note : Option (Note Value)). ForSome note IsNote) (note_is n.member r.step) (last_note IsNote n.notes (answer_then n.member r.step).note leaves.notes)

module _ (s : State) (texts : List Text) (pieces : List Piece) (stopped : Bool) where
  -- the node with these fields
  abbrev pub node_with : NodeState
  node_with = record { member = s; notes = notes_in texts; pieces = pieces; stopped = stopped }

  -- the node of these fields is the one that the step leaves, after it is taken
  pub finished : IsNode node_with → (r : ReadyStep) → ForSome (note_in r.step) IsNote → (text : Option Text) → text ≡ option_map note_text (note_in r.step)
      → record { member = committed s r.step; notes = notes_in (with_text texts text); pieces = changed r.change pieces; stopped = stopped } ≡ after node_with (taken_by node_with r)
  finished is r good text e = by r.step good e
    where
      by : (step : Option Prepared) → ForSome (note_in step) IsNote → text ≡ option_map note_text (note_in step)
          → record { member = committed s step; notes = notes_in (with_text texts text); pieces = changed r.change pieces; stopped = stopped }
          ≡ after node_with (record { answer = answer_then s step; pieces = changed r.change pieces })
      by None good e =
          rw e (ap (λ (m : State). record { member = m; notes = notes_in texts; pieces = changed r.change pieces; stopped = stopped }) (member_stays node_with is))
      by (Some p) good e =
          let notes = notes_with texts p.note good in
          rw (e, notes) (ap (λ (m : State). record { member = m; notes = with_note (notes_in texts) p.note; pieces = changed r.change pieces; stopped = stopped }) (member_taken node_with is p))

module _ {D : Type 0} (history : D → History) (s : State) (texts : List Text) (pieces : List Piece) (stopped : Bool) (l : Log D) (r : ReadyStep) (text : Option Text) where
  -- the node over its log, before the step
  abbrev pub before : LoggedNode D
  before = record { node = node_with s texts pieces stopped; log = l }

  -- without a call of the log a crash leaves the same notes as before
  pub no_moments : IsOnLog history before → LeavesOneMoreAtMost before.node (note_in r.step) (history l.disk) (history l.disk)
  no_moments on = by (note_in r.step)
    where
      files : (note : Text) → Leaves (HasBeforeOrAfter l.identity (texts_of before.node.notes) note) (history l.disk)
      files note c left =
          let settled = on.holds.settled in
          inl (record { gate = settled.gate; behind = []; parts = settled.on_disk c left ∙ settled.file; closed = settled.closed; lengths = settled.lengths })

      by : (note : Option (Note Value)) → LeavesOneMoreAtMost before.node note (history l.disk) (history l.disk)
      by None = refl
      by (Some n) = subst (λ i. AllAlong (HasBeforeOrAfter i (texts_of before.node.notes) (note_text n)) (history l.disk) (history l.disk)) on.owner (at_first (files (note_text n)))

  -- with one it leaves the notes, either with or without this one
  pub note_moments : (old new : History) → text ≡ option_map note_text (note_in r.step) → ((ts : List Text) → Holds history l ts → GoesOnWith l.identity ts text old new) → IsOnLog history before
      → LeavesOneMoreAtMost before.node (note_in r.step) old new
  note_moments old new e goes on = by (note_in r.step) e
    where
      by : (note : Option (Note Value)) → text ≡ option_map note_text note → LeavesOneMoreAtMost before.node note old new
      by None e = rw e at (goes (texts_of before.node.notes) on.holds)
      by (Some n) e = rw (e, on.owner) at (goes (texts_of before.node.notes) on.holds)

  -- the step was taken: these are the member, the texts, the pieces and the log afterwards
  module _ (is : IsLogged before) (ready : IsReadyFor before.node r) (e : text ≡ option_map note_text (note_in r.step))
      (new : State) (more : List Text) (had left : List Piece) (stops : Bool) (now : Log D)
      (member : new ≡ committed s r.step) (noted : more ≡ with_text texts text) (had_them : had ≡ pieces) (kept : left ≡ changed r.change had) (running : stops ≡ false) where
    -- the node is changed by the step
    pub done_state : node_with new more left stops ≡ after before.node (taken_by before.node r)
    done_state =
        let same : stops ≡ stopped = running ∙ sym (runs before.node r ready) in
        rw (member, noted, kept, had_them, same) (finished s texts pieces stopped is.node r (noted_good before.node r ready.leaves) text e)

    -- the notes are those that its log has afterwards
    has_texts : texts_of (notes_in more) ≡ with_text (texts_of (notes_in texts)) text
    has_texts =
        let notes : notes_in more ≡ with_note (notes_in texts) (note_in r.step) =
        rw (noted, e) (notes_with texts (note_in r.step) (noted_good before.node r ready.leaves)) in
        ap texts_of notes ∙ texts_with (notes_in texts) (note_in r.step) ∙ ap (with_text (texts_of (notes_in texts))) (sym e)

    -- the log is still this member's
    same_owner : identity_of new ≡ identity_of s
    same_owner = ap identity_of member ∙ same r.step
      where
        same : (step : Option Prepared) → identity_of (committed s step) ≡ identity_of s
        same None = refl
        same (Some p) = refl

    pub done_invariant : now.stopped ≡ stops → now.identity ≡ l.identity → now.end ≡ l.end + entry_len text
        → IsLogged (record { node = node_with new more left stops; log = now })
    done_invariant together owner end = record {
      node = subst IsNode (sym done_state) ready.leaves;
      together = together;
      owner = owner ∙ is.owner ∙ sym same_owner;
      end = end ∙ ap (λ n. n + entry_len text) is.end ∙ sym (place_with (identity_of s) (texts_of (notes_in texts)) text) ∙ λ j. gate_place (sym same_owner j) (sym has_texts j);
    }

    -- what is given out is that of the step
    pub done_taken : (out : Effects) → out.sends ≡ datagrams_to (sends_in r.step) → out.job ≡ (answer_then s r.step).job
        → HasTaken before.node (node_with new more left stops) (taken_by before.node r) out
    done_taken out sends job = record {
      state = done_state;
      tells = record { sends = sends ∙ ap datagrams_to (sym (sends_are s r.step)); job = job };
    }

    -- the node agrees with its log
    pub done_on_log : now.identity ≡ l.identity → ((ts : List Text) → Holds history l ts → Holds history now (with_text ts text)) → IsOnLog history before
        → IsOnLog history (record { node = node_with new more left stops; log = now })
    done_on_log owner acknowledged on =
        record { owner = owner ∙ on.owner ∙ sym same_owner; holds = subst (Holds history now) (sym has_texts) (acknowledged (texts_of (notes_in texts)) on.holds) }

-- ---- a refusal of the log

-- why the note was not written
pub cause_told : {D : Type 0} (l : Log D) (noted : Option (Note Value)) (text : Option Text) (f : NodeFault) → text ≡ option_map note_text noted → IsNoteCause l text f → IsLogCause l noted f
cause_told l noted text fault.Memory e cause = tt
cause_told l noted text (fault.Refused r) e cause = cause
cause_told l noted text (fault.Log log.Full) e cause = lacks l noted (rw e at cause)
cause_told l noted text (fault.Log log.Device) e cause = has_room l noted (rw e at cause)
cause_told l noted text (fault.Log log.Memory) e cause = cause
cause_told l noted text (fault.Log log.MustReopen) e cause = cause
cause_told l noted text (fault.Log log.NotALog) e cause = cause
cause_told l noted text (fault.Log log.OtherCluster) e cause = cause
cause_told l noted text fault.Stopped e cause = cause
cause_told l noted text (fault.Foreign f) e cause = cause

-- the node after the note was not written
module _ {D : Type 0} (history : D → History) (s : State) (texts : List Text) (pieces : List Piece) (stopped : Bool) (l : Log D) (stops : Bool) (now : Log D) (f : NodeFault) where
  pub still_logged : IsLogged (record { node = node_with s texts pieces stopped; log = l }) → now.stopped ≡ stops → now.identity ≡ l.identity → now.end ≡ l.end → IsLogged (record { node = node_with s texts pieces stops; log = now })
  still_logged is together owner end = record {
    node = record {
      member = is.node.member;
      restored = is.node.restored;
      notes = is.node.notes;
      on_units = is.node.on_units;
      claim = is.node.claim;
      pieces = is.node.pieces;
      once = is.node.once;
      let_through = is.node.let_through;
    };
    together = together;
    owner = owner ∙ is.owner;
    end = end ∙ is.end;
  }

  -- it is unchanged, unless the device failed
  pub still_node : stopped ≡ false → (f ≡ fault.Log log.Device) ⊎ (stops ≡ false) → (f ≡ fault.Log log.Device) ⊎ (node_with s texts pieces stops ≡ node_with s texts pieces stopped)
  still_node running stays = ⊎_elim (λ e. inl e) (λ e. inr (ap (λ (b : Bool). node_with s texts pieces b) (e ∙ sym running))) stays

  -- and so are its notes on the log
  pub still_noted : now.identity ≡ l.identity → IsOnLog history (record { node = node_with s texts pieces stopped; log = l })
      → ((ts : List Text) → Holds history l ts → (f ≡ fault.Log log.Device) ⊎ (Holds history now ts × (history now.disk ≡ history l.disk)))
      → (f ≡ fault.Log log.Device) ⊎ (IsOnLog history (record { node = node_with s texts pieces stops; log = now }) × (history now.disk ≡ history l.disk))
  still_noted owner on refused =
      ⊎_elim (λ e. inl e) (λ h. inr (record { owner = owner ∙ on.owner; holds = h.0 }, h.1)) (refused (texts_of (notes_in texts)) on.holds)
