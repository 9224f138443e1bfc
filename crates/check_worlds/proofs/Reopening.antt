-- A node that is opened again.
use Rattle.std.proofs.Common.{◌≡◌, ◌⊎◌, inl, inr, ⊎_elim, ℕ, ◌++◌, ◌∷◌, List, [], None, Option, Some, Result, Ok, Err, IfErr, IfOk, MatchResult, OnOk, refl, sym, subst, ap, ◌∙◌}
use Rattle.std.specs.Prelude.{◌≢◌}
use Rattle.std.proofs.lemmas.List.{map-append}
use Rattle.faults.specs.Bytes.{Text}
use Rattle.ballots.specs.declared.message.Note.{Note}
use Rattle.listing.specs.Tree.{Tree}
use Rattle.protocol.specs.State.{Value}
use Rattle.node.specs.Calls.{IsOpened, IsOpenFault, LeavesItsNoteAtMost, OpensAsOne, OpensNode}
use Rattle.node.specs.OnLog.{IsOnLog, LeavesOneMoreAtMost, identity, identity_of, texts_of}
use Rattle.node.specs.State.{IsNode, LoggedNode, NodeState, opened_node, with_note}
use Rattle.node.specs.Step.{Asked, Taken, Takes}
use Rattle.node.specs.declared.fault.NodeFault.{NodeFault}
use Rattle.node.specs.declared.fault.NodeFault.TheVariants as fault
use Rattle.stable_record.specs.Crash.{AllAlong, Leaves, MayLeave, and_then, at_first}
use Rattle.stable_record.specs.History.{History, seen}
use Rattle.stable_record.specs.Log.{HasBeforeOrAfter, HasNotes}
use Rattle.stable_record.specs.Opening.{HasOneAnswer, Opens}
use Rattle.stable_record.specs.declared.identity.Identity.{Identity}
use Rattle.stable_record.specs.declared.log_fault.LogFault.TheVariants as log
use Rattle.wire.specs.Spelling.{note_text}
use Rattle.check_worlds.proofs.Following.{notes_stay}
use Rattle.check_worlds.specs.Rows.{HasNotesBeforeOrAfter, IsOf, reopened}

-- a node that was opened, with what else is known
pub if_opened : {T E : Type 0} (r : Result T E) (P Q R : T → Type 0) (O : Type 0) → ((x : T) → P x → Q x → O → R x) → IfOk r P → IfOk r Q → OnOk r O → IfOk r R
if_opened (Ok x) P Q R O f p q o = f x p q o
if_opened (Err e) P Q R O f p q o = tt

pub if_refused : {T E : Type 0} (r : Result T E) (P Q R : E → Type 0) → ((e : E) → P e → Q e → R e) → IfErr r P → IfErr r Q → IfErr r R
if_refused (Ok x) P Q R f p q = tt
if_refused (Err e) P Q R f p q = f e p q

-- the part of a result's property for success
pub at_ok : {T E : Type 0} (r : Result T E) (P : T → Type 0) (Q : E → Type 0) → MatchResult r P Q → IfOk r P
at_ok (Ok x) P Q is = is
at_ok (Err e) P Q is = tt

pub at_any_ok : {T E : Type 0} (r : Result T E) (P : Type 0) (Q : E → Type 0) → MatchResult r (λ _. P) Q → OnOk r P
at_any_ok (Ok x) P Q is = is
at_any_ok (Err e) P Q is = tt

pub at_err : {T E : Type 0} (r : Result T E) (P : T → Type 0) (Q : E → Type 0) → MatchResult r P Q → IfErr r Q
at_err (Ok x) P Q is = tt
at_err (Err e) P Q is = is

module _ {D : Type 0} (history : D → History) (n : LoggedNode D) (on : IsOnLog history n) (is : IsNode n.node)
    (tree : Tree) (weights : List ℕ) (me : ℕ) (own : IsOf tree weights me n.node.member) where
  abbrev file : Text
  file = seen (history n.log.disk)

  -- its file opens as the node that has its notes
  its_file : OpensNode tree weights me file (Ok (reopened n.node))
  its_file =
      let s = n.node.member in
      let settled = on.holds.settled in
      let has : HasNotes n.log.identity (texts_of n.node.notes) file =
      record { gate = settled.gate; behind = []; parts = settled.file; closed = settled.closed; lengths = settled.lengths } in (
        record {
          division = s.division;
          of_tree = own.over;
          divided = is.member.division;
          notes_are = is.notes;
          on_units = is.on_units;
          node = λ j. opened_node s.division (own.weigh j) (own.own j) n.node.notes;
        },
        inr (subst (λ (i : Identity). HasNotes i (texts_of n.node.notes) file) on.owner has),
      )

  -- so it is opened as that node
  pub opened_again : (m : NodeState) → OpensAsOne tree weights me → IsOpened tree weights me m → Opens (identity_of m.member) file (Ok (texts_of m.notes)) → m ≡ reopened n.node
  opened_again m one opened opens =
      let two : Ok m ≡ Ok (reopened n.node) = one file (Ok m) (Ok (reopened n.node)) (opened, opens) its_file in cc

  -- and not refused
  pub not_refused : (f : NodeFault) → (f ≢ fault.Memory → OpensAsOne tree weights me) → IsOpenFault tree weights me file f → (f ≡ fault.Memory) ⊎ (f ≡ fault.Log log.Device)
  not_refused fault.Memory one cause = inl refl
  not_refused (fault.Log log.Device) one cause = inr refl
  not_refused (fault.Log log.NotALog) one cause =
      let two : Err log.NotALog ≡ Ok (reopened n.node) =
      one (λ e. (let no : fault.Log log.NotALog ≡ fault.Memory = e in cc)) file (Err log.NotALog) (Ok (reopened n.node)) cause its_file in
      absurd (let no : Err log.NotALog ≡ Ok (reopened n.node) = two in cc)
  not_refused (fault.Log log.OtherCluster) one cause =
      let two : Err log.OtherCluster ≡ Ok (reopened n.node) =
      one (λ e. (let no : fault.Log log.OtherCluster ≡ fault.Memory = e in cc)) file (Err log.OtherCluster) (Ok (reopened n.node)) cause its_file in
      absurd (let no : Err log.OtherCluster ≡ Ok (reopened n.node) = two in cc)
  not_refused (fault.Log log.Memory) one cause = absurd cause
  not_refused (fault.Log log.Full) one cause = absurd cause
  not_refused (fault.Log log.MustReopen) one cause = absurd cause
  not_refused (fault.Refused r) one cause = absurd cause
  not_refused fault.Stopped one cause = absurd cause
  not_refused (fault.Foreign f) one cause = absurd cause

-- ---- after a crash

module _ {D : Type 0} (history : D → History) (n : LoggedNode D) (on : IsOnLog history n)
    (tree : Tree) (weights : List ℕ) (me : ℕ) (own : IsOf tree weights me n.node.member) where
  -- a file with these texts as its notes opens as a node with them
  with_texts : (left : Text) (ts : List Text) → HasNotes (identity_of n.node.member) ts left → HasOneAnswer (identity tree weights me)
      → (m : NodeState) → IsOpened tree weights me m → Opens (identity_of m.member) left (Ok (texts_of m.notes)) → texts_of m.notes ≡ ts
  with_texts left ts has one m opened opens =
      let its : identity_of m.member ≡ identity tree weights me =
      ap (λ (x : NodeState). identity_of x.member) opened.node ∙ ap (λ (t : Tree). identity t weights me) opened.of_tree in
      let mine : identity_of n.node.member ≡ identity tree weights me = λ j. identity (own.over j) (own.weigh j) (own.own j) in
      let two : Ok (texts_of m.notes) ≡ Ok ts =
      one.no_second left (Ok (texts_of m.notes)) (Ok ts)
      (subst (λ (i : Identity). Opens i left (Ok (texts_of m.notes))) its opens)
      (subst (λ (i : Identity). Opens i left (Ok ts)) mine (inr has)) in
      cc

  -- a crash during a call leaves a file with its notes, either with or without that of the step
  pub crashed : (asked : Asked) (h : History) → LeavesItsNoteAtMost n.node asked (history n.log.disk) h → (left : Text) → MayLeave h left → HasOneAnswer (identity tree weights me)
      → (m : NodeState) → IsOpened tree weights me m → Opens (identity_of m.member) left (Ok (texts_of m.notes)) → HasNotesBeforeOrAfter n.node asked m
  crashed asked h leaves left may one m opened opens = by leaves
    where
      before : h ≡ history n.log.disk → HasNotesBeforeOrAfter n.node asked m
      before same =
          inl (with_texts left (texts_of n.node.notes) (notes_stay history n on left (subst (λ (x : History). MayLeave x left) same may)) one m opened opens)

      at_last : (P : Text → Type 0) (start now : History) → AllAlong P start now → Leaves P now
      at_last P start _ (at_first leaves) = leaves
      at_last P start _ (and_then call h rest leaves) = leaves

      more : (t : Taken) → Takes n.node asked (Ok t) → (note : Option (Note Value)) → note ≡ t.answer.note
          → LeavesOneMoreAtMost n.node note (history n.log.disk) h → HasNotesBeforeOrAfter n.node asked m
      more t takes None e same = before same
      more t takes (Some x) e along = ⊎_elim
          (λ has. inl (with_texts left (texts_of n.node.notes) has one m opened opens))
          (λ has. inr (
            t,
            takes,
            with_texts left (texts_of n.node.notes ++ note_text x ∷ []) has one m opened opens
                ∙ sym (map-append note_text n.node.notes (x ∷ []))
                ∙ ap (λ (o : Option (Note Value)). texts_of (with_note n.node.notes o)) e,
          ))
          (at_last (HasBeforeOrAfter (identity_of n.node.member) (texts_of n.node.notes) (note_text x)) (history n.log.disk) h along left may)

      by : LeavesItsNoteAtMost n.node asked (history n.log.disk) h → HasNotesBeforeOrAfter n.node asked m
      by (inl same) = before same
      by (inr (t, takes, most)) = more t takes t.answer.note refl most
