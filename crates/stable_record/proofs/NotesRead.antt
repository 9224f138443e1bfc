-- The notes read from a file, one by one.
use Rattle.std.proofs.Common.{◌≡◌, ◌≢◌, ℕ, ◌-◌, ◌<◌, ◌≤◌, ◌^◌, List, [], ◌∷◌, ◌++◌, length, take, drop, map, All, Vec, sym, ◌∙◌, ap, arith, append_assoc, length-append}
use Rattle.std.specs.declared.alloc.Global.{Global}
use Rattle.std.proofs.lemmas.List.{map_push, take-append-drop}
use Rattle.stable_record.specs.declared.identity.Identity.{Identity}
use Rattle.stable_record.specs.Log.{Note, note_of, open_gate, header, entry, entries, log_file, gate_place, HasNotes}
use Rattle.stable_record.specs.Opening.{IsBroken, IsCutShort}
use Rattle.stable_record.proofs.Files.{entries-push, lengths-push}

-- one more note
pub entries_more : (notes notes' : List (Vec ℕ Global)) (bytes : Vec ℕ Global) (note body rest behind : List ℕ) → body ≡ entries (map note_of notes) ++ rest → rest ≡ entry note ++ behind
    → bytes.items ≡ note → notes' ≡ notes ++ bytes ∷ [] → body ≡ entries (map note_of notes') ++ behind
entries_more notes notes' bytes note body rest behind parts next same pushed =
    let read = map note_of notes in
    let all : map note_of notes' ≡ read ++ note ∷ [] = ap (map note_of) pushed ∙ map_push note_of notes bytes ∙ ap (λ n. read ++ n ∷ []) same in
    parts ∙ ap (λ l. entries read ++ l) next ∙ sym (append_assoc (entries read) (entry note) behind)
    ∙ ap (λ l. l ++ behind) (sym (ap entries all ∙ entries-push read note))

pub lengths_more : (notes notes' : List (Vec ℕ Global)) (bytes : Vec ℕ Global) (note : List ℕ) → All (λ (n : Note). length n < 2 ^ 32) (map note_of notes) → length note < 2 ^ 32
    → bytes.items ≡ note → notes' ≡ notes ++ bytes ∷ [] → All (λ (n : Note). length n < 2 ^ 32) (map note_of notes')
lengths_more notes notes' bytes note all fits same pushed =
    let read = map note_of notes in
    let is : map note_of notes' ≡ read ++ note ∷ [] = ap (map note_of) pushed ∙ map_push note_of notes bytes ∙ ap (λ n. read ++ n ∷ []) same in
    rw is (lengths-push read note all fits)

module _ (i : Identity) (notes : List Note) (file rest : List ℕ) (first : ℕ) (within : first ≤ length file) (begins : take first file ≡ open_gate ∷ header i) (parts : drop first file ≡ entries notes ++ rest) where
  -- the whole file
  whole : file ≡ log_file i notes rest
  whole =
      sym (take-append-drop first file)
      ∙ ap (λ l. l ++ drop first file) begins
      ∙ ap (λ l. (open_gate ∷ header i) ++ l) parts
      ∙ sym (append_assoc (open_gate ∷ header i) (entries notes) rest)

  pub gate_found : length file - length rest ≡ gate_place i notes
  gate_found = omega (arith, ap length whole, length-append (open_gate ∷ header i ++ entries notes) rest, length-append (open_gate ∷ header i) (entries notes))

  pub notes_found : All (λ (n : Note). length n < 2 ^ 32) notes → (gate : ℕ) × (behind : List ℕ) × (rest ≡ gate ∷ behind) × (gate ≢ open_gate) → HasNotes i notes file
  notes_found all (gate, behind, is, shut) = record { gate = gate; behind = behind; parts = whole ∙ ap (log_file i notes) is; closed = shut; lengths = all }

  pub break_found : All (λ (n : Note). length n < 2 ^ 32) notes → IsCutShort rest → IsBroken i file
  break_found all short = record { whole = notes; end = rest; parts = whole; lengths = all; cut_short = short }
