-- The bytes of an entry; and every list of bytes, as entries followed by an end.
use Rattle.std.proofs.Common.{◌≡◌, ◌≢◌, ◌<◌, ◌≤◌, ◌+◌, ◌^◌, ◌⊎◌, ⊎_elim, inl, inr, ℕ, zero, suc, List, [], ◌∷◌, ◌++◌, length, take, drop, get_or, All, arith, refl, sym, ap, subst, ◌∙◌, append_assoc, length-take, length-drop}
use Rattle.std.specs.Int.{w32, to_be_bytes, from_be_bytes}
use Rattle.std.proofs.lemmas.Bool.{cases_lt, cases_eq}
use Rattle.std.proofs.lemmas.List.{get_or-take, get_or-drop, get_or_past, take-append-drop}
use Rattle.std.proofs.lemmas.Nat.{be_bytes_4}
use Rattle.stable_record.specs.History.{IsBytes}
use Rattle.stable_record.specs.Log.{Note, entry, entries, open_gate}
use Rattle.stable_record.specs.Opening.{IsCutShort}

bytes_of_front : (behind : List ℕ) → IsBytes behind → IsBytes (take 4 behind)
bytes_of_front behind bytes i = ⊎_elim
    (λ below. omega (arith, get_or-take 4 behind i 0 below, bytes i))
    (λ past. omega (arith, get_or_past (take 4 behind) i 0 (omega (arith, length-take 4 behind))))
    (cases_lt i 4)

-- an open gate, four bytes, and as many bytes as these say, are an entry
pub whole_entry : (file behind note rest : List ℕ) (gate n : ℕ) → file ≡ gate ∷ behind → gate ≡ open_gate → 4 ≤ length behind → IsBytes file
    → n ≡ from_be_bytes w32 (take 4 behind) → length note ≡ n → note ≡ take n (drop 4 behind) → rest ≡ drop n (drop 4 behind) → file ≡ entry note ++ rest
whole_entry file behind note rest gate n is opened long bytes reads size front back =
    let len = take 4 behind in
    let tail = drop 4 behind in
    let spelled : to_be_bytes w32 (length note) ≡ len =
    ap (to_be_bytes w32) size ∙ be_bytes_4 len n (omega (arith, length-take 4 behind)) (bytes_of_front behind (λ i. subst (λ f. get_or f (suc i) 0 < 256) is (bytes (suc i)))) reads in
    let joined : note ++ rest ≡ tail = ap (λ l. l ++ rest) front ∙ ap (λ l. take n tail ++ l) back ∙ take-append-drop n tail in
    is ∙ ap (λ g. g ∷ behind) opened
    ∙ ap (λ l. open_gate ∷ l) (sym (append_assoc (to_be_bytes w32 (length note)) note rest ∙ ap (λ l. l ++ (note ++ rest)) spelled ∙ ap (λ l. len ++ l) joined ∙ take-append-drop 4 behind))

-- entries, then an end at which the gate is closed or something is incomplete
pub record Scanned (rest : List ℕ) : Type 0 where
  pub notes : List Note
  pub end : List ℕ
  pub parts : rest ≡ entries notes ++ end
  pub lengths : All (λ note. length note < 2 ^ 32) notes
  pub ends : ((gate : ℕ) × (behind : List ℕ) × (end ≡ gate ∷ behind) × (gate ≢ open_gate)) ⊎ IsCutShort end

none_fit : All (λ (note : Note). length note < 2 ^ 32) []
none_fit k d lt = absurd (omega (arith, lt))

one_more_fits : (n : Note) (ns : List Note) → length n < 2 ^ 32 → All (λ (note : Note). length note < 2 ^ 32) ns → All (λ (note : Note). length note < 2 ^ 32) (n ∷ ns)
one_more_fits n ns fits all zero d lt = fits
one_more_fits n ns fits all (suc k) d lt = all k d (omega (arith, lt))

number_fits : (bs : List ℕ) → IsBytes bs → from_be_bytes w32 bs < 2 ^ 32
number_fits bs bytes = omega (arith, bytes 0, bytes 1, bytes 2, bytes 3)

stopped : (rest : List ℕ) → ((gate : ℕ) × (behind : List ℕ) × (rest ≡ gate ∷ behind) × (gate ≢ open_gate)) ⊎ IsCutShort rest → Scanned rest
stopped rest ends = record { notes = []; end = rest; parts = refl; lengths = none_fit; ends = ends }

pub scan : (fuel : ℕ) (rest : List ℕ) → length rest ≤ fuel → IsBytes rest → Scanned rest
scan fuel [] few bytes = record { notes = []; end = []; parts = refl; lengths = none_fit; ends = inr tt }
scan zero (gate ∷ behind) few bytes = absurd (omega (arith, few))
scan (suc n) (gate ∷ behind) few bytes =
    let len = from_be_bytes w32 (take 4 behind) in
    let tail = drop 4 behind in
    let note = take len tail in
    let rest = drop len tail in
    ⊎_elim
    (λ opened. ⊎_elim
    (λ short. stopped (gate ∷ behind) (inr (opened, short)))
    (λ whole.
    let size : length note ≡ len = omega (arith, whole, length-take len tail, length-drop 4 behind) in
    let is : gate ∷ behind ≡ entry note ++ rest = whole_entry (gate ∷ behind) behind note rest gate len refl opened (omega (arith, whole)) bytes refl size refl refl in
    let below = scan n rest (omega (arith, few, length-drop len tail, length-drop 4 behind)) (λ k. subst (λ x. x < 256) (sym (get_or-drop len tail k 0 ∙ get_or-drop 4 behind (len + k) 0)) (bytes (suc (4 + (len + k))))) in
    record {
      notes = note ∷ below.notes;
      end = below.end;
      parts = is ∙ ap (λ l. entry note ++ l) below.parts ∙ sym (append_assoc (entry note) (entries below.notes) below.end);
      lengths = one_more_fits note below.notes (omega (arith, size, number_fits (take 4 behind) (bytes_of_front behind (λ k. bytes (suc k))))) below.lengths;
      ends = below.ends;
    })
    (cases_lt (length behind) (4 + len + 1)))
    (λ shut. stopped (gate ∷ behind) (inl (gate, behind, refl, shut)))
    (cases_eq gate open_gate)
