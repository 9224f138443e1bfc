-- Pieces that are joined and split again.
use Rattle.std.proofs.Common.{◌≡◌, ℕ, ◌+◌, ◌<◌, Bool, true, false, not, cond, eqb, List, [], ◌∷◌, length, drop, refl, sym, ap, ◌∙◌, arith, unwrap_or, slice_get}
use Rattle.std.proofs.lemmas.Bool.{and_parts, eq-eqb, not-true, or_parts}
use Rattle.std.proofs.lemmas.List.{length-append}
use Rattle.std.proofs.lemmas.List.Elements.{All-cons, All-nil}
use Rattle.std.proofs.lemmas.List.Splits.{join_with_byte-slice_split, length-slice_split, slice_split_at, slice_split_none}
use Rattle.std.proofs.lemmas.List.Sums.{sum_by-cons}
use Rattle.std.specs.List.{All, join_with_byte, list_all, list_any, onto_first, sum_by}
use Rattle.faults.specs.Bytes.{Text, comma, has_byte}
use Rattle.faults.specs.Pieces.{pieces_at}
use Rattle.pkgpath.specs.PkgPath.{directory_of, parts_of}

-- the byte doesn't occur in the text
abbrev pub lacks : ℕ → Text → Bool
lacks c text = not (has_byte c text)

-- ---- no piece has the byte at which the text was split

onto_first-lacks : (c b : ℕ) (ps : List Text) → eqb b c ≡ false → list_all (lacks c) ps ≡ true → list_all (lacks c) (onto_first b ps) ≡ true
onto_first-lacks c b [] other all = rw other refl
onto_first-lacks c b (p ∷ ps) other all = rw other all

pub pieces-lack : (c : ℕ) (text : Text) → list_all (lacks c) (pieces_at c text) ≡ true
pieces-lack c [] = refl
pieces-lack c (b ∷ bs) = by (eqb b c) refl (pieces-lack c bs)
  where
    by : (t : Bool) → eqb b c ≡ t → list_all (lacks c) (pieces_at c bs) ≡ true → list_all (lacks c) (cond t ([] ∷ pieces_at c bs) (onto_first b (pieces_at c bs))) ≡ true
    by true same rest = rest
    by false other rest = onto_first-lacks c b (pieces_at c bs) other rest

-- ---- pieces without it are the pieces of their join

none_passes : (p : ℕ → Bool) (xs : Text) → list_any p xs ≡ false → All (λ x. p x ≡ false) xs
none_passes p [] none = All-nil (λ x. p x ≡ false)
none_passes p (x ∷ xs) none =
    let parts = or_parts (p x) (list_any p xs) none in
    All-cons (λ y. p y ≡ false) x xs parts.0 (none_passes p xs parts.1)

pub pieces_at-join : (c : ℕ) (p : Text) (ps : List Text) → list_all (lacks c) (p ∷ ps) ≡ true → pieces_at c (join_with_byte c (p ∷ ps)) ≡ p ∷ ps
pieces_at-join c p [] all =
    let parts = and_parts (lacks c p) true all in
    slice_split_none (λ b. eqb b c) p (none_passes (λ b. eqb b c) p (not-true (has_byte c p) parts.0))
pieces_at-join c p (q ∷ ps) all =
    let parts = and_parts (lacks c p) (list_all (lacks c) (q ∷ ps)) all in
    slice_split_at (λ b. eqb b c) p c (join_with_byte c (q ∷ ps)) (none_passes (λ b. eqb b c) p (not-true (has_byte c p) parts.0)) (eq-eqb c c refl)
    ∙ ap (λ rest. p ∷ rest) (pieces_at-join c q ps parts.1)

-- ---- the directory and the parts

first_and_rest : (ps : List Text) → 0 < length ps → ps ≡ unwrap_or (slice_get ps 0) [] ∷ drop 1 ps
first_and_rest [] some = absurd (omega arith)
first_and_rest (p ∷ ps) some = refl

pub pieces-split : (text : Text) → pieces_at comma text ≡ directory_of text ∷ parts_of text
pieces-split text =
    let long = length-slice_split (λ b. eqb b comma) text in
    first_and_rest (pieces_at comma text) (omega (arith, long))

-- ---- lengths

-- the length of a piece, with its separator
abbrev pub weight_of : Text → ℕ
weight_of p = length p + 1

pub length-join : (c : ℕ) (p : Text) (ps : List Text) → length (join_with_byte c (p ∷ ps)) + 1 ≡ sum_by weight_of (p ∷ ps)
length-join c p [] = omega (arith, sum_by-cons weight_of p [])
length-join c p (q ∷ ps) = omega (arith, length-append p (c ∷ join_with_byte c (q ∷ ps)), length-join c q ps, sum_by-cons weight_of p (q ∷ ps))

pub length-pieces : (text : Text) → length text + 1 ≡ weight_of (directory_of text) + sum_by weight_of (parts_of text)
length-pieces text =
    let joined : join_with_byte comma (directory_of text ∷ parts_of text) ≡ text = ap (join_with_byte comma) (sym (pieces-split text)) ∙ join_with_byte-slice_split comma text in
    ap (λ t. length t + 1) (sym joined) ∙ length-join comma (directory_of text) (parts_of text) ∙ sum_by-cons weight_of (directory_of text) (parts_of text)
