-- Files that would be made logs, and those that are as long as a log without notes.
use Rattle.std.proofs.Common.{◌≡◌, ◌∙◌, inl, inr, ℕ, ◌+◌, ◌≤◌, true, false, List, [], ◌∷◌, ◌++◌, Some, ap, arith, drop, length, length-append, min, refl, sym, take}
use Rattle.std.specs.Prelude.{if◌then◌else◌, slice_get}
use Rattle.std.proofs.lemmas.List.{take_min}
use Rattle.run_file.specs.Found.{FreshHasNoNotes}
use Rattle.run_file.specs.inside.Blank.{IsBlankBehind}
use Rattle.stable_record.specs.Faults.{ReadsAt}
use Rattle.stable_record.specs.Log.{Note, entries, entry, header, magic, open_gate, written_weights}
use Rattle.stable_record.specs.Magic.{are_ones, plain_magic, weighted_magic}
use Rattle.stable_record.specs.Opening.{IsBlank, begun, no_more_than_a_gate, not_opened, shortest}
use Rattle.stable_record.specs.declared.identity.Identity.{Identity}

-- ---- lengths

magic_length : (i : Identity) → length (magic i) ≡ 8
magic_length i =
    elim (are_ones i.weights.items) as (λ b. length (if b then plain_magic else weighted_magic) ≡ 8) [ true ↦ refl | false ↦ refl ]

abbrev two : Identity → List ℕ
two i = length i.weights.items ∷ i.me ∷ []

pub header_length : (i : Identity) → length (header i) ≡ 10 + length i.tree + length (written_weights i)
header_length i =
    omega (
      arith,
      magic_length i,
      length-append (magic i ++ i.tree ++ two i) (written_weights i),
      length-append (magic i ++ i.tree) (two i),
      length-append (magic i) i.tree,
    )

-- ---- what the first bytes decide

pub front_of : (file : List ℕ) (gate : ℕ) (behind : List ℕ) → gate ∷ behind ≡ take 9 file
    → (slice_get file 0 ≡ Some gate) × (take 8 (drop 1 file) ≡ behind)
front_of [] gate behind is = absurd (let no : gate ∷ behind ≡ [] = is in cc)
front_of (first ∷ rest) gate behind is =
    (let same : first ≡ gate = cc in ap Some same, sym (ap (drop 1) is))

pub no_front : (file : List ℕ) → [] ≡ take 9 file → 2 ≤ length file → ⊥
no_front [] is long = omega arith
no_front (first ∷ rest) is long = absurd (let no : [] ≡ first ∷ take 8 rest = is in cc)

-- ---- without notes

no_entries : (notes : List Note) → length (entries notes) ≡ 0 → notes ≡ []
no_entries [] none = refl
no_entries (note ∷ notes) none = absurd (omega (arith, none, length-append (entry note) (entries notes)))

pub fresh_has_no_notes : FreshHasNoNotes
fresh_has_no_notes i file notes found has =
    no_entries notes (
    omega (
      arith,
      found.1,
      ap length has.parts,
      length-append (open_gate ∷ header i ++ entries notes) (has.gate ∷ has.behind),
      length-append (open_gate ∷ header i) (entries notes),
    )
    )

-- the first bytes that are read of a file
pub front_read : (file buf : List ℕ) (count : ℕ) → ReadsAt file 0 count buf → length buf ≡ 9
    → take count buf ≡ take 9 file
front_read file buf count reads long =
    let all : count ≡ min 9 (length file) = omega (arith, reads.all, long) in
    reads.bytes ∙ ap (λ n. take n file) all ∙ take_min 9 file

-- ---- blank, by the first bytes

module _ (i : Identity) (file : List ℕ) (gate : ℕ) (behind : List ℕ) (is : gate ∷ behind ≡ take 9 file) where
  first_is : slice_get file 0 ≡ Some gate
  first_is = (front_of file gate behind is).0

  pub behind_is_blank : IsBlankBehind (length file) gate behind (shortest i) (magic i) → IsBlank i file
  behind_is_blank (inl (closed, short)) = begun short (first_is ∙ ap Some closed)
  behind_is_blank (inr (shut, size, own)) =
      not_opened size (λ opened. shut (let e : Some gate ≡ Some 1 = sym first_is ∙ opened in cc)) ((front_of file gate behind is).1 ∙ own)

  pub blank_is_behind : 2 ≤ length file → IsBlank i file → IsBlankBehind (length file) gate behind (shortest i) (magic i)
  blank_is_behind long (no_more_than_a_gate few) = absurd (omega arith)
  blank_is_behind long (begun short closed) = inl (let e : Some gate ≡ Some 0 = sym first_is ∙ closed in cc, short)
  blank_is_behind long (not_opened size shut own) =
      inr (λ opened. shut (first_is ∙ ap Some opened), size, sym (front_of file gate behind is).1 ∙ own)
