-- The contents of a log's file.
use Rattle.std.proofs.Common.{◌≡◌, inl, inr, ℕ, zero, suc, ◌+◌, ◌<◌, ◌^◌, List, [], ◌∷◌, ◌++◌, length, All, sym, ◌∙◌, ap, arith, append_assoc, length-append}
use Rattle.std.proofs.lemmas.Bool.{cases_eq}
use Rattle.std.proofs.lemmas.List.{append-nil}
use Rattle.std.proofs.lemmas.List.Elements.{All-append}
use Rattle.std.proofs.lemmas.Grind.{flat_map-append}
use Rattle.std.specs.Int.{w32, to_be_bytes}
use Rattle.stable_record.specs.declared.identity.Identity.{Identity}
use Rattle.stable_record.specs.Log.{Note, open_gate, closed_gate, header, entry, entries, log_file, gate_place, HasBeforeOrAfter}
use Rattle.stable_record.specs.inside.Staged.{staged}

-- the bytes before the closed gate
abbrev pub front : Identity → List Note → List ℕ
front i notes = open_gate ∷ header i ++ entries notes

pub length-front : (i : Identity) (notes : List Note) → length (front i notes) ≡ gate_place i notes
length-front i notes = omega (arith, length-append (open_gate ∷ header i) (entries notes))

pub entries-push : (notes : List Note) (note : Note) → entries (notes ++ note ∷ []) ≡ entries notes ++ entry note
entries-push notes note = flat_map-append entry notes (note ∷ []) ∙ ap (λ (l : List ℕ). entries notes ++ l) (append-nil (entry note))

-- opening the gate before a staged note adds one entry
pub file-push : (i : Identity) (notes : List Note) (note : Note) → front i notes ++ open_gate ∷ staged note ≡ log_file i (notes ++ note ∷ []) (closed_gate ∷ [])
file-push i notes note =
    let last = closed_gate ∷ [] in
    sym (append_assoc (front i notes) (entry note) last)
    ∙ ap (λ (l : List ℕ). l ++ last) (append_assoc (open_gate ∷ header i) (entries notes) (entry note))
    ∙ ap (λ (l : List ℕ). (open_gate ∷ header i) ++ l ++ last) (sym (entries-push notes note))

pub place-push : (i : Identity) (notes : List Note) (note : Note) → gate_place i (notes ++ note ∷ []) ≡ gate_place i notes + (length note + 5)
place-push i notes note =
    omega (arith, ap length (entries-push notes note), length-append (entries notes) (entry note), length-append (open_gate ∷ to_be_bytes w32 (length note)) note)

one_fits : (note : Note) → length note < 2 ^ 32 → All (λ (n : Note). length n < 2 ^ 32) (note ∷ [])
one_fits note fits zero d lt = fits
one_fits note fits (suc k) d lt = absurd (omega (arith, lt))

pub lengths-push : (notes : List Note) (note : Note) → All (λ (n : Note). length n < 2 ^ 32) notes → length note < 2 ^ 32 → All (λ (n : Note). length n < 2 ^ 32) (notes ++ note ∷ [])
lengths-push notes note all one = All-append (λ (n : Note). length n < 2 ^ 32) notes (note ∷ []) all (one_fits note one)

-- a whole note after any gate counts or doesn't count
pub any_gate : (i : Identity) (notes : List Note) (note : Note) (gate : ℕ) (file : List ℕ) → All (λ (n : Note). length n < 2 ^ 32) notes → length note < 2 ^ 32
    → file ≡ front i notes ++ gate ∷ staged note → HasBeforeOrAfter i notes note file
any_gate i notes note gate file all fits is = elim (cases_eq gate open_gate) [
  | inl opened ↦ inr record {
    gate = closed_gate;
    behind = [];
    parts = is ∙ ap (λ (g : ℕ). front i notes ++ g ∷ staged note) opened ∙ file-push i notes note;
    closed = omega arith;
    lengths = lengths-push notes note all fits;
  }
  | inr shut ↦ inl record { gate = gate; behind = staged note; parts = is; closed = shut; lengths = all }
]
