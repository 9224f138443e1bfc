-- A node after it is opened.
use Rattle.std.proofs.Common.{◌≡◌, ◌⊎◌, inl, inr, ℕ, false, List, [], IfErr, IfOk, None, Ok, Err, Result, arith, refl, sym, subst, ap, ◌∙◌}
use Rattle.std.specs.Prelude.{◌≢◌}
use Rattle.std.proofs.lemmas.List.Elements.{All-nil}
use Rattle.faults.specs.Bytes.{Text}
use Rattle.ballots.specs.declared.message.Note.{Note}
use Rattle.engine.specs.Tree.{Tree}
use Rattle.protocol.proofs.Restored.{notes_restore}
use Rattle.protocol.specs.Restoring.{restored}
use Rattle.protocol.specs.State.{State, Value, fresh}
use Rattle.stable_record.specs.Crash.{OnlySyncs}
use Rattle.stable_record.specs.History.{History, seen}
use Rattle.stable_record.specs.Opening.{HasOneAnswer, Opens}
use Rattle.stable_record.specs.declared.identity.Identity.{Identity}
use Rattle.stable_record.specs.declared.log_fault.LogFault.{LogFault}
use Rattle.stable_record.specs.declared.log_fault.LogFault.TheVariants as log
use Rattle.engine.proofs.Once.{one_division}
use Rattle.engine.specs.Division.{Division, IsDivision}
use Rattle.engine.specs.Units.{AreUnits}
use Rattle.wire.specs.Pieces.{IsPiece}
use Rattle.wire.specs.declared.datagram.Piece.{Piece}
use Rattle.node.proofs.Sent.{notes_again}
use Rattle.node.proofs.ranges.Outcomes.{for_none}
use Rattle.node.specs.Arrival.{refusal_of}
use Rattle.node.specs.Calls.{AreNotes, HasBadNotes, IsOpenFault, IsUntouched}
use Rattle.node.specs.OnLog.{identity, identity_of, texts_of}
use Rattle.node.specs.Ranges.{IsProgressOf}
use Rattle.node.specs.State.{IsNode, NodeState, opened_node}
use Rattle.node.specs.declared.fault.NodeFault.{NodeFault}
use Rattle.node.specs.declared.fault.NodeFault.TheVariants as fault
use Rattle.node.specs.Noted.{notes_in}
use Rattle.node.specs.inside.Opening.{IsNew, IsNoteFault, IsOver, told_by}

module _ (s : State) (new : IsNew s) (texts : List Text) (notes : List (Note Value)) (are : AreNotes s.division texts notes) where
  -- what its notes restore is a valid node
  opened_is_node : IsNode (opened_node s.division s.weights s.me notes)
  opened_is_node = record {
    member = (notes_restore s.division s.weights s.me notes new.divided new.weights new.one_of_them are.on_units).member;
    restored = refl;
    notes = are.each;
    on_units = are.on_units;
    claim = for_none (λ o. IsProgressOf _ o.progress);
    pieces = All-nil IsPiece;
    once = λ i j d lt within. absurd (omega (arith, within));
    let_through = All-nil (λ p. refusal_of (restored (fresh s.division s.weights s.me) notes) p.header ≡ None);
  }

  -- and these are its fields
  pub opened : (m : State) (ts : List Text) (pieces : List Piece) → m ≡ restored s notes → ts ≡ texts → pieces ≡ []
      → record { member = m; notes = notes_in ts; pieces = pieces; stopped = false } ≡ opened_node s.division s.weights s.me notes
  opened m ts pieces is same none =
      let member : m ≡ restored (fresh s.division s.weights s.me) notes = is ∙ ap (λ (x : State). restored x notes) new.fresh in
      let spelled : notes_in ts ≡ notes = ap notes_in (same ∙ are.read) ∙ notes_again notes are.each in
      λ i. record { member = member i; notes = spelled i; pieces = none i; stopped = false }

  pub opened_invariant : (n : NodeState) → n ≡ opened_node s.division s.weights s.me notes → IsNode n
  opened_invariant n is = subst IsNode (sym is) opened_is_node

-- the log of a member that knows nothing yet has the identity of its tree and weights
pub owner_of_new : (s : State) (tree : Tree) (weights : List ℕ) (me : ℕ) → s ≡ fresh s.division weights me → s.division.tree ≡ tree
    → identity_of s ≡ identity tree weights me
owner_of_new s tree weights me new of_tree =
    λ j. identity (of_tree j) (ap (λ (t : State). t.weights) new j) (ap (λ (t : State). t.me) new j)

-- ---- what holds for both results of a call

pub both_ok : {T E : Type 0} (r : Result T E) (P Q R : T → Type 0) → ((x : T) → P x → Q x → R x) → IfOk r P → IfOk r Q → IfOk r R
both_ok (Ok x) P Q R f p q = f x p q
both_ok (Err e) P Q R f p q = tt

pub both_err : {T E : Type 0} (r : Result T E) (P Q R : E → Type 0) → ((x : E) → P x → Q x → R x) → IfErr r P → IfErr r Q → IfErr r R
both_err (Ok x) P Q R f p q = tt
both_err (Err e) P Q R f p q = f e p q

-- ---- the file's notes

-- the file opens with the node's notes
pub opens_as : (s : State) (tree : Tree) (weights : List ℕ) (me : ℕ) → s ≡ fresh s.division weights me → s.division.tree ≡ tree → (texts : List Text) (n : NodeState) → IsOver s texts n
    → (i : Identity) → i ≡ identity tree weights me → (file : List ℕ) → Opens i file (Ok texts) → Opens (identity_of n.member) file (Ok (texts_of n.notes))
opens_as s tree weights me new of_tree texts n over i owner file opens =
    let weigh : s.weights ≡ weights = ap (λ (x : State). x.weights) new in
    let own : s.me ≡ me = ap (λ (x : State). x.me) new in
    let whose : identity_of n.member ≡ i = ap (λ (x : NodeState). identity_of x.member) over.node ∙ (λ j. identity (of_tree j) (weigh j) (own j)) ∙ sym owner in
    subst (λ (j : Identity). Opens j file (Ok (texts_of n.notes))) (sym whose) (subst (λ (ts : List Text). Opens i file (Ok ts)) over.notes.read opens)

-- ---- the tree's division

-- a tree has only one division
pub one_way : (d e : Division) → d.tree ≡ e.tree → IsDivision d → IsDivision e → d ≡ e
one_way d e same a b =
    let units : d.units ≡ e.units = one_division d.tree d.units e.units a.units (subst (λ (t : Tree). AreUnits t e.units) (sym same) b.units) in
    λ i. record { tree = same i; units = units i }

-- texts that are not notes over this division are not notes over the tree
pub bad_notes : (d : Division) (tree : Tree) (texts : List Text) → d.tree ≡ tree → IsDivision d → ((given : List (Note Value)) → ¬ AreNotes d texts given) → HasBadNotes tree texts
bad_notes d tree texts of_tree is bad e notes same other are =
    bad notes (subst (λ (x : Division). AreNotes x texts notes) (one_way e d (same ∙ sym of_tree) other is) are)

-- ---- refusals

-- only a failure of the device is reported as that
pub told_device : (f : LogFault) → told_by f ≡ fault.Log log.Device → f ≡ log.Device
told_device log.Memory e = absurd (let no : fault.Memory ≡ fault.Log log.Device = e in cc)
told_device log.Device e = refl
told_device log.Full e = absurd (let no : fault.Log log.Full ≡ fault.Log log.Device = e in cc)
told_device log.MustReopen e = absurd (let no : fault.Log log.MustReopen ≡ fault.Log log.Device = e in cc)
told_device log.NotALog e = absurd (let no : fault.Log log.NotALog ≡ fault.Log log.Device = e in cc)
told_device log.OtherCluster e = absurd (let no : fault.Log log.OtherCluster ≡ fault.Log log.Device = e in cc)

module _ (tree : Tree) (weights : List ℕ) (me : ℕ) (i : Identity) (owner : i ≡ identity tree weights me) where
  -- a refusal of the log
  pub log_refused : (old new : History) (f : LogFault) → ((f ≡ log.NotALog) ⊎ (f ≡ log.OtherCluster) → Opens i (seen old) (Err f) × OnlySyncs old new)
      → (f ≢ log.Full) × (f ≢ log.MustReopen) → IsOpenFault tree weights me (seen old) (told_by f)
  log_refused old new log.Memory refused neither = tt
  log_refused old new log.Device refused neither = tt
  log_refused old new log.Full refused neither = neither.0 refl
  log_refused old new log.MustReopen refused neither = neither.1 refl
  log_refused old new log.NotALog refused neither = inl (subst (λ (j : Identity). Opens j (seen old) (Err log.NotALog)) owner (refused (inl refl)).0)
  log_refused old new log.OtherCluster refused neither = subst (λ (j : Identity). Opens j (seen old) (Err log.OtherCluster)) owner (refused (inr refl)).0

  -- a file that is not a log of the member is left unchanged
  pub log_untouched : (old new : History) (f : LogFault) → ((f ≡ log.NotALog) ⊎ (f ≡ log.OtherCluster) → Opens i (seen old) (Err f) × OnlySyncs old new)
      → IsUntouched tree weights me (told_by f) old new
  log_untouched old new log.Memory refused (inl e) = absurd (let no : fault.Memory ≡ fault.Log log.OtherCluster = e in cc)
  log_untouched old new log.Memory refused (inr e) = absurd (let no : fault.Memory ≡ fault.Log log.NotALog = e.0 in cc)
  log_untouched old new log.Device refused (inl e) = absurd (let no : fault.Log log.Device ≡ fault.Log log.OtherCluster = e in cc)
  log_untouched old new log.Device refused (inr e) = absurd (let no : fault.Log log.Device ≡ fault.Log log.NotALog = e.0 in cc)
  log_untouched old new log.Full refused (inl e) = absurd (let no : fault.Log log.Full ≡ fault.Log log.OtherCluster = e in cc)
  log_untouched old new log.Full refused (inr e) = absurd (let no : fault.Log log.Full ≡ fault.Log log.NotALog = e.0 in cc)
  log_untouched old new log.MustReopen refused (inl e) = absurd (let no : fault.Log log.MustReopen ≡ fault.Log log.OtherCluster = e in cc)
  log_untouched old new log.MustReopen refused (inr e) = absurd (let no : fault.Log log.MustReopen ≡ fault.Log log.NotALog = e.0 in cc)
  log_untouched old new log.NotALog refused e = (refused (inl refl)).1
  log_untouched old new log.OtherCluster refused e = (refused (inr refl)).1

  module _ (d : Division) (of_tree : d.tree ≡ tree) (is : IsDivision d) (texts : List Text) (old new : History) (opens : Opens i (seen old) (Ok texts)) where
    -- a refusal of the notes
    pub notes_refused : (f : NodeFault) → IsNoteFault d texts f → IsOpenFault tree weights me (seen old) f
    notes_refused f (inl none) = subst (IsOpenFault tree weights me (seen old)) (sym none) tt
    notes_refused f (inr (e, bad)) =
        let right = subst (λ (j : Identity). Opens j (seen old) (Ok texts)) owner opens in
        subst (IsOpenFault tree weights me (seen old)) (sym e) (inr (texts, right, bad_notes d tree texts of_tree is bad))

    -- a refusal of notes is not one of a file that isn't a log
    pub notes_untouched : HasOneAnswer i → (f : NodeFault) → IsNoteFault d texts f → IsUntouched tree weights me f old new
    notes_untouched one f (inl none) (inl e) = absurd (let no : fault.Memory ≡ fault.Log log.OtherCluster = sym none ∙ e in cc)
    notes_untouched one f (inl none) (inr e) = absurd (let no : fault.Memory ≡ fault.Log log.NotALog = sym none ∙ e.0 in cc)
    notes_untouched one f (inr bad) (inl e) = absurd (let no : fault.Log log.NotALog ≡ fault.Log log.OtherCluster = sym bad.0 ∙ e in cc)
    notes_untouched one f (inr bad) (inr e) =
        let two : Ok texts ≡ Err log.NotALog = one.no_second (seen old) (Ok texts) (Err log.NotALog) opens (subst (λ (j : Identity). Opens j (seen old) (Err log.NotALog)) (sym owner) e.1) in
        absurd (let no : Ok texts ≡ Err log.NotALog = two in cc)

    -- nor a failure of the device
    pub notes_no_device : (f : NodeFault) → IsNoteFault d texts f → f ≢ fault.Log log.Device
    notes_no_device f (inl none) e = (let no : fault.Memory ≡ fault.Log log.Device = sym none ∙ e in cc)
    notes_no_device f (inr bad) e = (let no : fault.Log log.NotALog ≡ fault.Log log.Device = sym bad.0 ∙ e in cc)
