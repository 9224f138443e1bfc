-- What successive calls leave of the notes.
use Rattle.std.proofs.Common.{inl, inr, ℕ, ◌++◌, ◌∷◌, List, [], None, Option, Some, Result, Ok, Err, OnOk, sym, subst, ap, ◌∙◌, append_assoc}
use Rattle.std.proofs.lemmas.List.{append-nil}
use Rattle.std.proofs.lemmas.List.{map-append}
use Rattle.faults.specs.Bytes.{Text}
use Rattle.ballots.specs.declared.message.Note.{Note}
use Rattle.protocol.specs.State.{Value}
use Rattle.node.specs.Calls.{HasHandled, LeavesItsNoteAtMost}
use Rattle.node.specs.OnLog.{IsOnLog, LeavesOneMoreAtMost, identity_of, texts_of}
use Rattle.node.specs.State.{LoggedNode, NodeState, with_note}
use Rattle.node.specs.Step.{Asked, Taken, after}
use Rattle.node.specs.declared.prepared_step.Effects.{Effects}
use Rattle.stable_record.specs.Crash.{AllAlong, and_then, at_first}
use Rattle.stable_record.specs.History.{History}
use Rattle.stable_record.specs.Log.{HasBeforeOrAfter, HasNotes}
use Rattle.stable_record.specs.declared.identity.Identity.{Identity}
use Rattle.wire.specs.Spelling.{note_text}
use Rattle.check_worlds.specs.Rows.{EachCrashLeavesItsNotes, HasThese, LosesNoNote}

-- a weaker property holds all along, too
along_so : (P Q : List ℕ → Type 0) (start new : History) → ((c : List ℕ) → P c → Q c) → AllAlong P start new → AllAlong Q start new
along_so P Q start _ so (at_first leaves) = at_first (λ c left. so c (leaves c left))
along_so P Q start _ so (and_then call h rest leaves) = and_then call h (along_so P Q start h so rest) (λ c left. so c (leaves c left))

-- continuing with a stronger property
along_on : (P Q : List ℕ → Type 0) (start mid new : History) → ((c : List ℕ) → Q c → P c) → AllAlong P start mid → AllAlong Q mid new → AllAlong P start new
along_on P Q start mid _ so first (at_first leaves) = first
along_on P Q start mid _ so first (and_then call h rest leaves) = and_then call h (along_on P Q start mid h so first rest) (λ c left. so c (leaves c left))

module _ {D : Type 0} (history : D → History) (n : LoggedNode D) (on : IsOnLog history n) where
  -- a crash leaves the notes that are on the log
  pub notes_stay : EachCrashLeavesItsNotes history n
  notes_stay c left =
      let settled = on.holds.settled in
      subst (λ (i : Identity). HasNotes i (texts_of n.node.notes) c) on.owner (record {
        gate = settled.gate;
        behind = [];
        parts = settled.on_disk c left ∙ settled.file;
        closed = settled.closed;
        lengths = settled.lengths;
      })

  -- and these are the notes that it has
  has_its_own : (c : List ℕ) → HasNotes (identity_of n.node.member) (texts_of n.node.notes) c → HasThese n.node c
  has_its_own c has = record { more = []; notes = rw append-nil has }

  no_call : LosesNoNote n.node (history n.log.disk) (history n.log.disk)
  no_call = at_first (λ c left. has_its_own c (notes_stay c left))

  -- a call loses no note
  pub none_lost : (asked : Asked) (h : History) → LeavesItsNoteAtMost n.node asked (history n.log.disk) h → LosesNoNote n.node (history n.log.disk) h
  none_lost asked h (inl same) = subst (LosesNoNote n.node (history n.log.disk)) (sym same) no_call
  none_lost asked h (inr (t, takes, most)) = by t.answer.note most
    where
      by : (note : Option (Note Value)) → LeavesOneMoreAtMost n.node note (history n.log.disk) h → LosesNoNote n.node (history n.log.disk) h
      by None same = subst (LosesNoNote n.node (history n.log.disk)) (sym same) no_call
      by (Some x) along =
          along_so (HasBeforeOrAfter (identity_of n.node.member) (texts_of n.node.notes) (note_text x)) (HasThese n.node) (history n.log.disk) h one along
        where
          one : (c : List ℕ) → HasBeforeOrAfter (identity_of n.node.member) (texts_of n.node.notes) (note_text x) c → HasThese n.node c
          one c (inl has) = has_its_own c has
          one c (inr has) = record { more = note_text x ∷ []; notes = has }

-- a file with the notes after a step has those before it
had_them : (n : NodeState) (t : Taken) (c : List ℕ) → HasThese (after n t) c → HasThese n c
had_them n t c has = by t.answer.note has.more has.notes
  where
    by : (note : Option (Note Value)) (more : List Text) → HasNotes (identity_of n.member) (texts_of (with_note n.notes note) ++ more) c → HasThese n c
    by None more notes = record { more = more; notes = notes }
    by (Some x) more notes = record {
      more = note_text x ∷ more;
      notes = subst (λ (ts : List Text). HasNotes (identity_of n.member) ts c)
          (ap (λ (ts : List Text). ts ++ more) (map-append note_text n.notes (x ∷ [])) ∙ append_assoc (texts_of n.notes) (note_text x ∷ []) more) notes;
    }

-- and so no note is lost by one call after another
pub none_lost_then : (old mid : NodeState) (asked : Asked) (out : Effects) (start then now : History) → HasHandled old mid asked out → LosesNoNote old start then → LosesNoNote mid then now → LosesNoNote old start now
none_lost_then old mid asked out start then now handled first second =
    along_on (HasThese old) (HasThese mid) start then now
    (λ c has. had_them old handled.step c (subst (λ (n : NodeState). HasThese n c) handled.taken.state has)) first second

-- what holds whatever is returned
pub ok_if : {T E : Type 0} (r : Result T E) (P : Type 0) → P → OnOk r P
ok_if (Ok x) P is = is
ok_if (Err e) P is = tt
