-- The notes of the texts of a log.
use Rattle.std.proofs.Common.{◌≡◌, ◌⊎◌, ⊎_elim, inl, inr, ◌++◌, ◌+◌, ◌<◌, ℕ, zero, suc, All, Bool, true, false, List, [], ◌∷◌, None, Some, Ok, Err, Vec, get_or, is_some, length, map, option_map, refl, slice_get, sym, take, ap, ◌∙◌}
use Rattle.std.specs.declared.alloc.Global.{Global}
use Rattle.std.proofs.lemmas.List.{map-append, take_more}
use Rattle.std.proofs.lemmas.Option.{slice_get-get_or, slice_get-map}
use Rattle.stable_record.specs.Log.{note_of as logged}
use Rattle.std.proofs.lemmas.List.Elements.{All-append, All-cons, All-head, All-nil, All-tail}
use Rattle.std.proofs.lemmas.Slice.Eq.{bytes_eq-Decides}
use Rattle.std.specs.Str.{bytes_eq}
use Rattle.faults.specs.Bytes.{Text}
use Rattle.ballots.specs.declared.message.Note.{Note}
use Rattle.package_record.proofs.BuildsRead.{build_is_read}
use Rattle.protocol.specs.Restoring.{AreOnUnits}
use Rattle.protocol.specs.State.{Value}
use Rattle.member.proofs.Named.{named_not, named_so}
use Rattle.engine.specs.Division.{Division, number_found, number_named, unit_at}
use Rattle.wire.proofs.NoteTexts.{note_again}
use Rattle.wire.specs.Messages.{IsNote}
use Rattle.wire.specs.Reading.{note_of}
use Rattle.wire.specs.Spelling.{note_text}
use Rattle.wire.specs.declared.WireFault.{WireFault}
use Rattle.node.specs.Calls.{AreNotes}
use Rattle.wire.specs.declared.WireFault.TheVariants as wire
use Rattle.node.specs.declared.fault.NodeFault.{NodeFault}
use Rattle.node.specs.inside.Opening.{IsNoteFault, IsNoteOf, IsReadBy, unread_by}

-- whether a unit that a path finds has that name
pub has_name : (d : Division) (path name : Text) (u : ℕ) (b : Bool) → number_found d path ≡ Some u → (unit_at d u).name ≡ name → b ≡ bytes_eq name path → b ≡ is_some (number_named d path)
has_name d path name u true found is e =
    let same = (bytes_eq-Decides name path).0 (sym e) in
    sym (ap is_some (named_so d path u found (is ∙ same)))
has_name d path name u false found is e =
    let other : (unit_at d u).name ≡ path → ⊥ = λ same. (let no : false ≡ true = e ∙ (bytes_eq-Decides name path).1 (sym is ∙ same) in cc) in
    sym (ap is_some (named_not d path u found other))

module _ (d : Division) where
  -- a text that isn't parsed as a note is not that of a note
  pub not_read : (text : Text) (f : WireFault) → note_of text ≡ Err f → (n : Note Value) → ¬ IsNoteOf d text n
  not_read text f e n is =
      let no : Ok n ≡ Err f = sym (note_again build_is_read n is.note) ∙ ap note_of (sym is.read) ∙ e in
      cc

  -- the result for a text that isn't parsed as a note
  pub unread_is : (text : Text) (f : WireFault) → (f ≡ wire.Memory) ⊎ (note_of text ≡ Err f) → IsReadBy d text (Err (unread_by f))
  unread_is text f read = ⊎_elim (λ e. inl (ap unread_by e)) (λ e. by f (not_read text f e)) read
    where
      by : (f : WireFault) → ((n : Note Value) → ¬ IsNoteOf d text n) → IsReadBy d text (Err (unread_by f))
      by wire.Memory none = inl refl
      by wire.TooLong none = inr (refl, none)
      by wire.Truncated none = inr (refl, none)
      by wire.Magic none = inr (refl, none)
      by wire.Kind none = inr (refl, none)
      by wire.BadField none = inr (refl, none)
      by wire.Trailing none = inr (refl, none)

  -- a text is that of one note only
  read_as : (text : Text) (n m : Note Value) → IsNote m → text ≡ note_text m → IsNoteOf d text n → n ≡ m
  read_as text n m good e is =
      let same : Ok n ≡ Ok m = sym (note_again build_is_read n is.note) ∙ ap note_of (sym is.read ∙ e) ∙ note_again build_is_read m good in
      cc

  -- the text of a note that is not about a unit is not that of a note about one
  pub of_no_unit : (text : Text) (m : Note Value) → IsNote m → text ≡ note_text m → is_some (number_named d m.path) ≡ false → (n : Note Value) → ¬ IsNoteOf d text n
  of_no_unit text m good e none n is =
      let same = read_as text n m good e is in
      let no : true ≡ false = sym (ap is_some is.named) ∙ ap (λ (k : Note Value). is_some (number_named d k.path)) same ∙ none in
      cc

  -- each text of such notes is that of one of them
  among : (given : List (Note Value)) (k : ℕ) (t : Text) → slice_get (map note_text given) k ≡ Some t → All IsNote given → AreOnUnits d given → (n : Note Value) × IsNoteOf d t n
  among [] k t e each on = absurd (let no : None ≡ Some t = e in cc)
  among (n ∷ ns) zero t e each on =
      let named = All-head (λ x. (u : ℕ) × (number_named d x.path ≡ Some u)) n ns on in
      (n, record { read = (let same : Some (note_text n) ≡ Some t = e in cc); note = All-head IsNote n ns each; unit = named.0; named = named.1 })
  among (n ∷ ns) (suc k) t e each on = among ns k t e (All-tail IsNote n ns each) (All-tail (λ x. (u : ℕ) × (number_named d x.path ≡ Some u)) n ns on)

  -- so none of the texts is not a note's
  pub no_notes : (texts : List Text) (k : ℕ) (t : Text) → slice_get texts k ≡ Some t → ((n : Note Value) → ¬ IsNoteOf d t n) → (given : List (Note Value)) → ¬ AreNotes d texts given
  no_notes texts k t at none given are =
      let one = among given k t (ap (λ (ts : List Text). slice_get ts k) (sym are.read) ∙ at) are.each are.on_units in
      none one.0 one.1

  -- with one note added they are notes
  pub notes_more : (texts : List Text) (notes : List (Note Value)) (t : Text) (n : Note Value) → AreNotes d texts notes → IsNoteOf d t n → AreNotes d (texts ++ t ∷ []) (notes ++ n ∷ [])
  notes_more texts notes t n are is = record {
    read = ap (λ (ts : List Text). ts ++ t ∷ []) are.read ∙ ap (λ x. map note_text notes ++ x ∷ []) is.read ∙ sym (map-append note_text notes (n ∷ []));
    each = All-append IsNote notes (n ∷ []) are.each (All-cons IsNote n [] is.note (All-nil IsNote));
    on_units = All-append (λ x. (u : ℕ) × (number_named d x.path ≡ Some u)) notes (n ∷ []) are.on_units
        (All-cons (λ x. (u : ℕ) × (number_named d x.path ≡ Some u)) n [] (is.unit, is.named) (All-nil (λ x. (u : ℕ) × (number_named d x.path ≡ Some u))));
  }

  -- a text of the file that isn't parsed as a note about a unit
  pub not_notes : (texts : List (Vec ℕ Global)) (k : ℕ) (t : Vec ℕ Global) (f : NodeFault) → k < length texts → t ≡ get_or texts k t → IsReadBy d t.items (Err f) → IsNoteFault d (map logged texts) f
  not_notes texts k t f lt is read =
      let at : slice_get (map logged texts) k ≡ Some t.items = slice_get-map logged texts k ∙ ap (option_map logged) (slice_get-get_or texts k t lt ∙ ap Some (sym is)) in
      ⊎_elim (λ e. inl e) (λ bad. inr (bad.0, no_notes (map logged texts) k t.items at bad.1)) read

  -- the texts that were parsed, with one added
  pub texts_so_far : (texts : List (Vec ℕ Global)) (k : ℕ) (t : Vec ℕ Global) → k < length texts → t ≡ get_or texts k t
      → map logged (take (k + 1) texts) ≡ map logged (take k texts) ++ t.items ∷ []
  texts_so_far texts k t lt is =
      ap (map logged) (take_more texts k t lt ∙ ap (λ (x : Vec ℕ Global). take k texts ++ x ∷ []) (sym is)) ∙ map-append logged (take k texts) (t ∷ [])
