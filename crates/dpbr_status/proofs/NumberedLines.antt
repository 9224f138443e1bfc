-- The lines of a text with their numbers, and those that the code iterates over.
use Rattle.std.proofs.Common.{◌≡◌, ◌+◌, ◌<◌, ◌≤◌, ◌∙◌, ◌++◌, ◌==◌, ℕ, true, Bor, List, [], ◌∷◌, length, map, take, get_or, Some, arith, ap, sym, refl}
use Rattle.std.proofs.lemmas.Bool.Decides.{Decides-eqb}
use Rattle.std.proofs.lemmas.List.{take_more}
use Rattle.std.proofs.lemmas.List.FromFn.{get_or-enumerate_from, length-enumerate_from}
use Rattle.std.proofs.lemmas.Option.{slice_get-get_or}
use Rattle.std.specs.List.{slice_get}
use Rattle.dpbr_status.proofs.Slices.{length_now, now_at, taken_whole}
use Rattle.faults.specs.Bytes.{Text, is_empty, line_feed}
use Rattle.faults.specs.Pieces.{pieces_at}
use Rattle.listing.specs.Lines.{Line, lines_of}

module _ (text : Text) (items : List (Bor Text)) (are : map (λ l. l.now) items ≡ pieces_at line_feed text) where
  pub length_lines : length (lines_of text) ≡ length items
  length_lines = length-enumerate_from 1 (pieces_at line_feed text) ∙ ap length (sym are) ∙ length_now items

  line_at : (i : ℕ) (d : Bor Text) (n : Line) → i < length items → get_or (lines_of text) i n ≡ (i + 1, (get_or items i d).now)
  line_at i d n within =
      let inside : i < length (pieces_at line_feed text) = omega (arith, ap length are, length_now items) in
      let number : 1 + i ≡ i + 1 = omega arith in
      let content = ap (λ (ts : List Text). get_or ts i n.1) (sym are) ∙ now_at items i d n.1 within in
      get_or-enumerate_from 1 (pieces_at line_feed text) i n inside ∙ (λ j. (number j, content j))

  pub line_next : (i : ℕ) (d : Bor Text) → i < length items → take (i + 1) (lines_of text) ≡ take i (lines_of text) ++ (i + 1, (get_or items i d).now) ∷ []
  line_next i d within =
      let inside : i < length (lines_of text) = omega (arith, length_lines) in
      take_more (lines_of text) i (0, []) inside ∙ ap (λ (l : Line). take i (lines_of text) ++ l ∷ []) (line_at i d (0, []) within)

  pub line_stands : (i : ℕ) (d : Bor Text) → i < length items → slice_get (lines_of text) i ≡ Some (i + 1, (get_or items i d).now)
  line_stands i d within =
      let inside : i < length (lines_of text) = omega (arith, length_lines) in
      slice_get-get_or (lines_of text) i (0, []) inside ∙ ap (λ (l : Line). Some l) (line_at i d (0, []) within)

  pub lines_end : (i : ℕ) → length items ≤ i → take i (lines_of text) ≡ lines_of text
  lines_end i past = taken_whole (lines_of text) i (omega (arith, length_lines))

pub no_bytes : (text : Text) → (length text == 0) ≡ true → is_empty text ≡ true
no_bytes [] e = refl
no_bytes (b ∷ text) e = let none = (Decides-eqb (length (b ∷ text)) 0).0 e in absurd (omega arith)
