-- Splitting a text at the first of some bytes.
use Rattle.std.proofs.Common.{◌≡◌, ℕ, ◌+◌, ◌<◌, ◌==◌, ◌++◌, Bool, true, false, cond, List, [], ◌∷◌, length, take, drop, Ok, Err, refl, sym, ap, ◌∙◌, arith}
use Rattle.std.proofs.Math.Seq.{drop-append-add, take-append_seam}
use Rattle.std.specs.List.{after_first, before_first, onto_first, position_or_len}
use Rattle.std.proofs.lemmas.Bool.{eq-eqb, le-ltb, lt-ltb, or_parts}
use Rattle.std.proofs.lemmas.List.{length-append}
use Rattle.std.proofs.lemmas.List.Sums.{fails_before_first}
use Rattle.std.proofs.lemmas.List.Splits.{slice_split_first, slice_split_none}
use Rattle.faults.specs.Bytes.{Text, has_byte}
use Rattle.faults.specs.Pieces.{pieces_at}
use Rattle.package_record.specs.Reading.{cut_in, line_at}
use Rattle.package_record.specs.declared.RecordFault.TheVariants.{BadLine, Truncated}

-- the first such byte after a prefix without it is at the end of the prefix
at_front : (c : ℕ) (front behind : Text) → has_byte c front ≡ false → position_or_len (λ b. b == c) (front ++ c ∷ behind) ≡ length front
at_front c [] behind lacks = rw (eq-eqb c c refl) refl
at_front c (x ∷ front) behind lacks =
    let parts = or_parts (x == c) (has_byte c front) lacks in
    rw parts.0 (omega (arith, at_front c front behind parts.1))

-- a text made of a prefix without the byte, the byte, and a rest is split there
pub halves_found : (c : ℕ) (text front behind : Text) → (text ≡ front ++ c ∷ behind) × (has_byte c front ≡ false)
    → (position_or_len (λ b. b == c) text < length text) × (front ≡ before_first (λ b. b == c) text) × (behind ≡ after_first (λ b. b == c) text)
halves_found c text front behind h =
    let at : position_or_len (λ b. b == c) text ≡ length front = ap (position_or_len (λ b. b == c)) h.0 ∙ at_front c front behind h.1 in
    let long : length text ≡ length front + length (c ∷ behind) = ap length h.0 ∙ length-append front (c ∷ behind) in
    let first : take (position_or_len (λ b. b == c) text) text ≡ front = ap (λ n. take n text) at ∙ ap (take (length front)) h.0 ∙ take-append_seam front (c ∷ behind) in
    let rest : drop (position_or_len (λ b. b == c) text + 1) text ≡ behind = ap (λ n. drop (n + 1) text) at ∙ ap (drop (length front + 1)) h.0 ∙ drop-append-add front (c ∷ behind) 1 in
    (omega (arith, at, long), sym first, sym rest)

-- a text without the byte has it nowhere
pub nowhere : (c : ℕ) (text : Text) → has_byte c text ≡ false → position_or_len (λ b. b == c) text ≡ length text
nowhere c [] lacks = refl
nowhere c (x ∷ text) lacks =
    let parts = or_parts (x == c) (has_byte c text) lacks in
    rw parts.0 (omega (arith, nowhere c text parts.1))

-- the parts of a text that is split at the first such byte
pub cut_found : (c n : ℕ) (text front behind : Text) → (text ≡ front ++ c ∷ behind) × (has_byte c front ≡ false) → cut_in c n text ≡ Ok (front, behind)
unfolding cut_in
cut_found c n text front behind h =
    let cut = halves_found c text front behind h in
    rw (lt-ltb _ _ cut.0, cut.1, cut.2) refl

-- a text without the byte isn't split
pub no_cut : (c n : ℕ) (text : Text) → has_byte c text ≡ false → cut_in c n text ≡ Err (BadLine n)
unfolding cut_in
no_cut c n text lacks =
    let all = nowhere c text lacks in
    rw (le-ltb (position_or_len (λ b. b == c) text) (length text) (omega (arith, all))) refl

-- a text without the byte is one piece
pub one_piece : (c : ℕ) (text : Text) → position_or_len (λ b. b == c) text ≡ length text → pieces_at c text ≡ text ∷ []
one_piece c text e = slice_split_none (λ b. b == c) text (λ k d lt. fails_before_first (λ b. b == c) text k d (omega (arith, e, lt)))

onto_some : (x : ℕ) (parts : List Text) → (m : Text) × (ms : List Text) × (onto_first x parts ≡ m ∷ ms)
onto_some x [] = (x ∷ [], [], refl)
onto_some x (part ∷ parts) = (x ∷ part, parts, refl)

-- a text has at least one piece
pub some_piece : (c : ℕ) (text : Text) → (m : Text) × (ms : List Text) × (pieces_at c text ≡ m ∷ ms)
some_piece c [] = ([], [], refl)
some_piece c (x ∷ xs) = at_byte (x == c)
  where
    at_byte : (b : Bool) → (m : Text) × (ms : List Text) × (cond b ([] ∷ pieces_at c xs) (onto_first x (pieces_at c xs)) ≡ m ∷ ms)
    at_byte true = ([], pieces_at c xs, refl)
    at_byte false = onto_some x (pieces_at c xs)

-- the line at the front of a text that has an LF
pub line_found : (passed : ℕ) (text : Text) → position_or_len (λ b. b == 10) text < length text
    → line_at (record { passed = passed; lines = pieces_at 10 text }) ≡ Ok (before_first (λ b. b == 10) text, record { passed = passed + 1; lines = pieces_at 10 (after_first (λ b. b == 10) text) })
unfolding line_at
line_found passed text lt =
    let more = some_piece 10 (after_first (λ b. b == 10) text) in
    rw (slice_split_first (λ b. b == 10) text 0 lt, more.2) refl

pub no_line : (passed : ℕ) (text : Text) → position_or_len (λ b. b == 10) text ≡ length text → line_at (record { passed = passed; lines = pieces_at 10 text }) ≡ Err Truncated
unfolding line_at
no_line passed text e = rw (one_piece 10 text e) refl

-- a text has at least one line
pub some_line : (c : ℕ) (text : Text) → 0 < length (pieces_at c text)
some_line c text = let p = some_piece c text in rw p.2 (omega arith)
