-- What a crash during a turn leaves, and what it is opened as.
use Rattle.std.proofs.Common.{◌≡◌, ◌++◌, ◌⊎◌, ℕ, List, [], ◌∷◌, Option, None, Some, Result, Ok, Err, IfErr, IfOk, length, refl, sym, ap, subst, ◌∙◌, arith, length-append, inl, inr, ⊎_elim}
use Rattle.std.specs.Prelude.{IfNone, IfSome, MatchResult}
use Rattle.std.proofs.lemmas.List.{map-append}
use Rattle.ballots.specs.declared.message.Note.{Note}
use Rattle.turn_rules.specs.Acts.{asked_by}
use Rattle.turn_rules.specs.declared.act.Act.{Act}
use Rattle.turn_rules.specs.declared.fault.TurnFault.{TurnFault}
use Rattle.turn_rules.specs.declared.fault.TurnFault.TheVariants as refused
use Rattle.faults.specs.Bytes.{Text}
use Rattle.laws.proofs.Turning.{asks_so, has_room}
use Rattle.laws.specs.Hosts.{IsLeft, IsOfATurn, TakesStep, WasOffered}
use Rattle.laws.specs.OnHosts.{TookOffered}
use Rattle.laws.specs.Reopening.{IsLeftInTurn, MayBeLeft, TurnsLeaveLogs}
use Rattle.listing.specs.Tree.{Tree}
use Rattle.node.proofs.OneStep.{one_step}
use Rattle.node.specs.Calls.{IsOpened, LeavesItsNoteAtMost}
use Rattle.node.specs.OnLog.{IsFull, IsLogged, IsOnLog, LeavesOneMoreAtMost, identity, identity_of, texts_of}
use Rattle.node.specs.State.{LoggedNode, NodeState, with_note}
use Rattle.node.specs.Step.{Asked, Taken, Takes}
use Rattle.node.specs.declared.fault.NodeFault.{NodeFault}
use Rattle.protocol.specs.State.{Value}
use Rattle.lone_node.specs.Faults.{GoesDown, IsTurnFault}
use Rattle.lone_node.specs.Handed.{Handed}
use Rattle.lone_node.specs.State.{SoloState}
use Rattle.lone_node.specs.Turn.{HasTaken, IsUntouched, LeavesAtMost}
use Rattle.lone_node.specs.Turns.{IsTurn, Outcome}
use Rattle.stable_record.specs.Crash.{AllAlong, Leaves, MayLeave, and_then, at_first}
use Rattle.stable_record.specs.History.{History}
use Rattle.stable_record.specs.Log.{HasBeforeOrAfter, HasNotes}
use Rattle.stable_record.specs.Opening.{HasOneAnswer, Opens}
use Rattle.stable_record.specs.declared.identity.Identity.{Identity}
use Rattle.wire.specs.Spelling.{note_text}
use Rattle.stable_record.specs.declared.disk.Disk.{Ghosts as Disk}
use Rattle.datagram_ports.specs.declared.port.Port.{Ghosts as Port}

-- ---- moments

-- if nothing was called, there is only one moment
pub one_moment : (old rest moment since : History) → old ≡ rest ++ moment → moment ≡ since ++ old
    → moment ≡ old
one_moment old rest moment since before behind = by since behind
  where
    by : (since : History) → moment ≡ since ++ old → moment ≡ old
    by [] e = e
    by (c ∷ cs) e = absurd (omega (
      arith,
      ap length before,
      length-append rest moment,
      ap length e,
      length-append cs old,
    ))

-- what holds all along holds of what a crash at any moment leaves
pub at_moment : (P : Text → Type 0) (old new : History) → AllAlong P old new
    → (rest moment since : History) → new ≡ rest ++ moment → moment ≡ since ++ old
    → Leaves P moment
at_moment P old _ (at_first leaves) rest moment since before behind =
    subst (Leaves P) (sym (one_moment old rest moment since before behind)) leaves
at_moment P old _ (and_then call h along leaves) [] moment since before behind =
    subst (Leaves P) before leaves
at_moment P old _ (and_then call h along leaves) (c ∷ cs) moment since before behind =
    let rest : h ≡ cs ++ moment = cc in
    at_moment P old h along cs moment since rest behind

-- what holds all along holds of what a crash leaves at the end
at_end : (P : Text → Type 0) (old new : History) → AllAlong P old new → Leaves P new
at_end P old _ (at_first leaves) = leaves
at_end P old _ (and_then call h along leaves) = leaves

-- ---- one node

module _ {D : Type 0} (history : D → History) (n : LoggedNode D) (on : IsOnLog history n) where
  abbrev own : Identity
  own = identity_of n.node.member

  -- if nothing was called, a crash leaves the notes that are on the log
  pub notes_stay : (file : Text) → MayLeave (history n.log.disk) file
      → HasNotes own (texts_of n.node.notes) file
  notes_stay file may =
      let settled = on.holds.settled in
      subst (λ (i : Identity). HasNotes i (texts_of n.node.notes) file) on.owner (record {
        gate = settled.gate;
        behind = [];
        parts = settled.on_disk file may ∙ settled.file;
        closed = settled.closed;
        lengths = settled.lengths;
      })

  -- if the log is unchanged, a crash leaves its notes at each moment
  stays_at : (new : History) (file : Text) → new ≡ history n.log.disk
      → MayBeLeft (history n.log.disk) new file → HasNotes own (texts_of n.node.notes) file
  stays_at new file same gone = notes_stay file
      (subst (λ (h : History). MayLeave h file)
      (one_moment (history n.log.disk) gone.rest gone.moment gone.since (sym same ∙ gone.before)
      gone.behind) gone.may)

  -- a crash while a note is written leaves the notes, with this one or without it
  note_at : (note : Option (Note Value)) (new : History) (file : Text)
      → LeavesOneMoreAtMost n.node note (history n.log.disk) new
      → MayBeLeft (history n.log.disk) new file
      → HasNotes own (texts_of n.node.notes) file
      ⊎ HasNotes own (texts_of (with_note n.node.notes note)) file
  note_at None new file same gone = inl (stays_at new file same gone)
  note_at (Some note) new file along gone = ⊎_elim (λ has. inl has)
      (λ has. inr (subst (λ (l : List Text). HasNotes own l file)
      (sym (map-append note_text n.node.notes (note ∷ []))) has))
      (at_moment (HasBeforeOrAfter own (texts_of n.node.notes) (note_text note))
      (history n.log.disk) new along gone.rest gone.moment gone.since gone.before gone.behind file
      gone.may)

  -- and so does a crash afterwards
  pub note_then : (note : Option (Note Value)) (new : History) (file : Text)
      → LeavesOneMoreAtMost n.node note (history n.log.disk) new → MayLeave new file
      → HasNotes own (texts_of n.node.notes) file
      ⊎ HasNotes own (texts_of (with_note n.node.notes note)) file
  note_then None new file same may =
      inl (notes_stay file (subst (λ (h : History). MayLeave h file) same may))
  note_then (Some note) new file along may = ⊎_elim (λ has. inl has)
      (λ has. inr (subst (λ (l : List Text). HasNotes own l file)
      (sym (map-append note_text n.node.notes (note ∷ []))) has))
      (at_end (HasBeforeOrAfter own (texts_of n.node.notes) (note_text note)) (history n.log.disk)
      new along file may)

-- a file with these notes is opened as a node that has them
opened_with : (tree : Tree) (weights : List ℕ) (me : ℕ) (own : Identity) (file : Text)
    (ts : List Text) (m : NodeState) → own ≡ identity tree weights me → HasNotes own ts file
    → HasOneAnswer (identity tree weights me) → IsOpened tree weights me m
    → Opens (identity_of m.member) file (Ok (texts_of m.notes)) → texts_of m.notes ≡ ts
opened_with tree weights me own file ts m mine has one opened opens =
    let its : identity_of m.member ≡ identity tree weights me =
    ap (λ (x : NodeState). identity_of x.member) opened.node
    ∙ ap (λ (t : Tree). identity t weights me) opened.of_tree in
    let two : Ok (texts_of m.notes) ≡ Ok ts =
    one.no_second file (Ok (texts_of m.notes)) (Ok ts)
    (subst (λ (i : Identity). Opens i file (Ok (texts_of m.notes))) its opens)
    (subst (λ (i : Identity). Opens i file (Ok ts)) mine (inr has)) in
    cc

-- ---- a turn

module _ {D P : Type 0} (disk : Disk D)
    (port : Port P) (handed : Handed)
    (old new : SoloState D P) (logged : IsLogged old.node) (on : IsOnLog disk.history old.node)
    (kept : disk.is_kept new.node.log.disk) where
  abbrev n : NodeState
  n = old.node.node

  -- Nothing was done to the log, or the note of this step was written.
  abbrev HasWritten : Type 0
  HasWritten =
      (disk.history new.node.log.disk ≡ disk.history old.node.log.disk)
      ⊎ ((asked : Asked) × (t : Taken)
      × ((before : List Text) → WasOffered before asked → TakesStep before n asked t)
      × LeavesOneMoreAtMost n t.answer.note (disk.history old.node.log.disk)
      (disk.history new.node.log.disk))

  written_of : (asked : Asked) → IsOfATurn asked → (t : Taken) → Takes n asked (Ok t)
      → ¬ IsFull n t.answer.note
      → LeavesItsNoteAtMost n asked (disk.history old.node.log.disk) (disk.history new.node.log.disk)
      → HasWritten
  written_of asked asks t takes room (inl same) = inl same
  written_of asked asks t takes room (inr (u, other, most)) =
      let two : ◌≡◌ {A = Result Taken NodeFault} (Ok u) (Ok t) =
      one_step n asked (Ok u) (Ok t) other takes in
      let same : u ≡ t = cc in
      inr (
        asked,
        t,
        λ before came. record { asks = asks; came = came; takes = takes; room = room },
        subst (λ (x : Taken). LeavesOneMoreAtMost n x.answer.note (disk.history old.node.log.disk)
            (disk.history new.node.log.disk)) same most,
      )

  went_down : (k : ℕ)
      → IsTurnFault port old new handed (LeavesAtMost disk old new) (refused.Down k)
      → HasWritten
  went_down k (asked, is_chosen, me, tried, down, leaves) =
      written_of asked
      (asks_so port handed (LeavesAtMost disk old new) old new
      logged asked [] is_chosen) tried.step tried.takes
      (has_room port handed (LeavesAtMost disk old new) old new logged
      tried.step.answer.note tried.room)
      (leaves kept on)

  written : (r : Result (Option Act) TurnFault)
      → IfOk r (λ o. IfSome o
      (λ act. HasTaken port old new handed (asked_by act)))
      → IfOk r (λ o. IfSome o (λ act. LeavesAtMost disk old new (asked_by act)))
      → IfErr r (IsTurnFault port old new handed (LeavesAtMost disk old new))
      → MatchResult r (λ o. IfNone o (IsUntouched disk old new))
      (λ f. ((k : ℕ) × (f ≡ refused.Down k)) ⊎ IsUntouched disk old new)
      → HasWritten
  written (Ok None) t leaves fault untouched = inl (untouched kept (λ up. on))
  written (Ok (Some act)) t leaves fault untouched =
      written_of (asked_by act)
      (asks_so port handed (LeavesAtMost disk old new) old new
      logged (asked_by act) _ t.chosen) t.taken t.takes t.room (leaves kept on)
  written (Err f) t leaves fault untouched = ⊎_elim
      (λ down. went_down down.0
      (subst (IsTurnFault port old new handed (LeavesAtMost disk old new)) down.1
      fault))
      (λ same. inl (same kept (λ up. on))) untouched

  -- the node that is opened again has the notes from before, or these and that of the step
  pub opened_again : (r : Result (Option Act) TurnFault)
      → IfOk r (λ o. IfSome o
      (λ act. HasTaken port old new handed (asked_by act)))
      → IfOk r (λ o. IfSome o (λ act. LeavesAtMost disk old new (asked_by act)))
      → IfErr r (IsTurnFault port old new handed (LeavesAtMost disk old new))
      → MatchResult r (λ o. IfNone o (IsUntouched disk old new))
      (λ f. ((k : ℕ) × (f ≡ refused.Down k)) ⊎ IsUntouched disk old new)
      → (tree : Tree) (weights : List ℕ) (me : ℕ) → identity_of n.member ≡ identity tree weights me
      → HasOneAnswer (identity tree weights me) → (file : Text)
      → MayBeLeft (disk.history old.node.log.disk) (disk.history new.node.log.disk) file
      → (m : NodeState) → IsOpened tree weights me m
      → Opens (identity_of m.member) file (Ok (texts_of m.notes))
      → IsLeftInTurn n (texts_of m.notes)
  opened_again r t leaves fault untouched tree weights me mine one file gone m opened opens =
      by (written r t leaves fault untouched)
    where
      with_these : (ts : List Text) → HasNotes (identity_of n.member) ts file
          → texts_of m.notes ≡ ts
      with_these ts has =
          opened_with tree weights me (identity_of n.member) file ts m mine has one opened opens

      by : HasWritten → IsLeftInTurn n (texts_of m.notes)
      by (inl same) = inl (with_these (texts_of n.notes)
          (stays_at disk.history old.node on (disk.history new.node.log.disk) file same gone))
      by (inr (asked, t, step, most)) = ⊎_elim
          (λ has. inl (with_these (texts_of n.notes) has))
          (λ has. inr (asked, t, step, with_these (texts_of (with_note n.notes t.answer.note)) has))
          (note_at disk.history old.node on t.answer.note (disk.history new.node.log.disk) file most gone)

-- a node opened for this member has the member's identity
pub identity_opened : (tree : Tree) (weights : List ℕ) (me : ℕ) (n : NodeState)
    → IsOpened tree weights me n → identity_of n.member ≡ identity tree weights me
identity_opened tree weights me n opened =
    ap (λ (x : NodeState). identity_of x.member) opened.node
    ∙ ap (λ (t : Tree). identity t weights me) opened.of_tree

-- So it is of each turn.
module _ {D P : Type 0} (disk : Disk D)
    (port : Port P) where
  pub turns_leave_logs : TurnsLeaveLogs disk port
  turns_leave_logs tree weights me handed old new answer file again turn leaves opened opens =
      opened_again disk port handed old new turn.log.logged
      leaves.on_log leaves.kept answer turn.done.taken turn.log.any_moment turn.refuses.refused
      turn.log.untouched tree weights me leaves.own leaves.one_answer file leaves.left again opened
      (subst (λ (i : Identity). Opens i file (Ok (texts_of again.notes)))
      (sym (identity_opened tree weights me again opened)) opens)

-- ---- a turn of which it is known that what it took was offered

module _ {D P : Type 0} (disk : Disk D)
    (port : Port P) (handed : Handed)
    (old new : SoloState D P) (on : IsOnLog disk.history old.node) (kept : disk.is_kept new.node.log.disk)
    (before : List Text) where
  -- Nothing was done to the log, or the note of a step that the node takes was written.
  abbrev HasWrittenOne : Type 0
  HasWrittenOne =
      (disk.history new.node.log.disk ≡ disk.history old.node.log.disk)
      ⊎ ((asked : Asked) × (t : Taken) × TakesStep before old.node.node asked t
      × LeavesOneMoreAtMost old.node.node t.answer.note (disk.history old.node.log.disk)
      (disk.history new.node.log.disk))

  step_of : (asked : Asked) → WasOffered before asked → IsOfATurn asked → (t : Taken)
      → Takes old.node.node asked (Ok t) → ¬ IsFull old.node.node t.answer.note
      → LeavesItsNoteAtMost old.node.node asked (disk.history old.node.log.disk)
      (disk.history new.node.log.disk)
      → HasWrittenOne
  step_of asked came asks t takes room (inl same) = inl same
  step_of asked came asks t takes room (inr (u, other, most)) =
      let two : ◌≡◌ {A = Result Taken NodeFault} (Ok u) (Ok t) =
      one_step old.node.node asked (Ok u) (Ok t) other takes in
      let same : u ≡ t = cc in
      inr (
        asked,
        t,
        record { asks = asks; came = came; takes = takes; room = room },
        subst (λ (x : Taken). LeavesOneMoreAtMost old.node.node x.answer.note
            (disk.history old.node.log.disk) (disk.history new.node.log.disk)) same most,
      )

  down_one : (logged : IsLogged old.node) (k : ℕ)
      → (g : GoesDown port old new handed (LeavesAtMost disk old new) k)
      → WasOffered before g.0 → HasWrittenOne
  down_one logged k (asked, is_chosen, me, tried, down, leaves) came =
      step_of asked came
      (asks_so port handed (LeavesAtMost disk old new) old new
      logged asked [] is_chosen) tried.step tried.takes
      (has_room port handed (LeavesAtMost disk old new) old new logged
      tried.step.answer.note tried.room)
      (leaves kept on)

  same_but : (f : TurnFault) → ((k : ℕ) → f ≡ refused.Down k → ⊥)
      → ((k : ℕ) × (f ≡ refused.Down k)) ⊎ IsUntouched disk old new → HasWrittenOne
  same_but f other (inl (k, is)) = absurd (other k is)
  same_but f other (inr same) = inl (same kept (λ up. on))

  written_one : (answer : Outcome)
      → (turn : IsTurn disk port handed old new answer)
      → TookOffered disk port handed old new answer
      turn before
      → HasWrittenOne
  written_one (Ok (Some act)) turn came =
      step_of (asked_by act) came
      (asks_so port handed (LeavesAtMost disk old new) old new
      turn.log.logged (asked_by act) _ (turn.done.taken).chosen) (turn.done.taken).taken
      (turn.done.taken).takes (turn.done.taken).room (turn.log.any_moment kept on)
  written_one (Ok None) turn came = inl (turn.log.untouched kept (λ up. on))
  written_one (Err refused.Memory) turn came = same_but refused.Memory
      (λ k e. let no : ◌≡◌ {A = TurnFault} refused.Memory (refused.Down k) = e in cc)
      turn.log.untouched
  written_one (Err (refused.Node f)) turn came = same_but (refused.Node f)
      (λ k e. let no : ◌≡◌ {A = TurnFault} (refused.Node f) (refused.Down k) = e in cc)
      turn.log.untouched
  written_one (Err (refused.Down k)) turn came =
      down_one turn.log.logged k turn.refuses.refused came
  written_one (Err refused.NotSent) turn came = absurd turn.refuses.refused
  written_one (Err refused.NotFresh) turn came = absurd turn.refuses.refused

  -- such notes as a node that ends leaves
  abbrev pub HasLeft : Text → Type 0
  HasLeft file = (ts : List Text) × HasNotes (identity_of old.node.node.member) ts file
      × IsLeft before old.node.node ts

  left_by_step : (asked : Asked) (t : Taken) → TakesStep before old.node.node asked t
      → (file : Text)
      → HasNotes (identity_of old.node.node.member) (texts_of old.node.node.notes) file
      ⊎ HasNotes (identity_of old.node.node.member)
      (texts_of (with_note old.node.node.notes t.answer.note)) file
      → HasLeft file
  left_by_step asked t step file (inl has) = (texts_of old.node.node.notes, has, inl refl)
  left_by_step asked t step file (inr has) =
      (texts_of (with_note old.node.node.notes t.answer.note), has, inr (asked, t, step, refl))

  -- a crash in the turn leaves such notes
  in_turn : HasWrittenOne → (file : Text)
      → MayBeLeft (disk.history old.node.log.disk) (disk.history new.node.log.disk) file → HasLeft file
  in_turn (inl same) file gone = (
    texts_of old.node.node.notes,
    stays_at disk.history old.node on (disk.history new.node.log.disk) file same gone,
    inl refl,
  )
  in_turn (inr (asked, t, step, most)) file gone = left_by_step asked t step file
      (note_at disk.history old.node on t.answer.note (disk.history new.node.log.disk) file most gone)

  -- and so does one after it
  after_turn : HasWrittenOne → (file : Text) → MayLeave (disk.history new.node.log.disk) file
      → HasLeft file
  after_turn (inl same) file may = (
    texts_of old.node.node.notes,
    notes_stay disk.history old.node on file (subst (λ (h : History). MayLeave h file) same may),
    inl refl,
  )
  after_turn (inr (asked, t, step, most)) file may = left_by_step asked t step file
      (note_then disk.history old.node on t.answer.note (disk.history new.node.log.disk) file most may)

  pub left_in_turn : (answer : Outcome)
      → (turn : IsTurn disk port handed old new answer)
      → TookOffered disk port handed old new answer
      turn before
      → (file : Text) → MayBeLeft (disk.history old.node.log.disk) (disk.history new.node.log.disk) file
      → HasLeft file
  left_in_turn answer turn came = in_turn (written_one answer turn came)

  pub left_after_turn : (answer : Outcome)
      → (turn : IsTurn disk port handed old new answer)
      → TookOffered disk port handed old new answer
      turn before
      → (file : Text) → MayLeave (disk.history new.node.log.disk) file → HasLeft file
  left_after_turn answer turn came = after_turn (written_one answer turn came)
