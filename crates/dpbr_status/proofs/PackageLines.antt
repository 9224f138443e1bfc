-- The lines of the packages so far.
use Rattle.std.proofs.Common.{◌≡◌, ◌+◌, ◌<◌, ◌∙◌, ◌++◌, ℕ, suc, List, [], ◌∷◌, length, take, arith, ap, sym, refl, subst}
use Rattle.std.proofs.lemmas.Grind.{flat_map-append}
use Rattle.std.proofs.lemmas.List.{append-nil, length-take-le, take_more}
use Rattle.std.proofs.lemmas.List.FromFn.{length-range_with_len}
use Rattle.std.proofs.Math.Seq.{take-length}
use Rattle.std.specs.List.{AllZip, flat_map, range_with_len, zip}
use Rattle.engine.specs.State.{AreLetters, HasLetter, State}
use Rattle.engine.specs.declared.Letter.{Letter}
use Rattle.faults.specs.Bytes.{Text}
use Rattle.listing.specs.Tree.{Package, name_at, no_package, package_at, path_at}
use Rattle.dpbr_status.specs.Status.{package_line, package_lines}
use Rattle.engine.proofs.Lists.{range_next}

-- the text has the lines of the packages below a position
pub record HasLines (s : State) (p : ℕ) (text : Text) : Type 0 where
  pub letters : List Letter
  pub are_letters : AllZip (HasLetter s) (range_with_len 0 p) letters
  pub lines : text ≡ package_lines (take p s.tree) letters

letters_length : (s : State) (ps : List ℕ) (letters : List Letter) → AllZip (HasLetter s) ps letters → length ps ≡ length letters
letters_length s [] [] all = refl
letters_length s [] (l ∷ ls) all = absurd all
letters_length s (q ∷ qs) [] all = absurd all
letters_length s (q ∷ qs) (l ∷ ls) all = ap suc (letters_length s qs ls all.1)

letters_more : (s : State) (ps : List ℕ) (letters : List Letter) (p : ℕ) (letter : Letter) → AllZip (HasLetter s) ps letters → HasLetter s p letter
    → AllZip (HasLetter s) (ps ++ p ∷ []) (letters ++ letter ∷ [])
letters_more s [] [] p letter all has = (has, tt)
letters_more s [] (l ∷ ls) p letter all has = absurd all
letters_more s (q ∷ qs) [] p letter all has = absurd all
letters_more s (q ∷ qs) (l ∷ ls) p letter all has = (all.0, letters_more s qs ls p letter all.1 has)

pairs_more : (xs : List Package) (letters : List Letter) (x : Package) (letter : Letter) → length xs ≡ length letters
    → zip (xs ++ x ∷ []) (letters ++ letter ∷ []) ≡ zip xs letters ++ (x, letter) ∷ []
pairs_more [] [] x letter same = refl
pairs_more [] (l ∷ ls) x letter same = absurd (omega arith)
pairs_more (y ∷ ys) [] x letter same = absurd (omega arith)
pairs_more (y ∷ ys) (l ∷ ls) x letter same = ap (λ (ps : List (Package × Letter)). (y, l) ∷ ps) (pairs_more ys ls x letter (omega arith))

pub no_lines : (s : State) → HasLines s 0 []
no_lines s = record { letters = []; are_letters = tt; lines = refl }

pub lines_more : (s : State) (p : ℕ) (letter : Letter) (text after : Text) → HasLines s p text → p < length s.tree → HasLetter s p letter
    → after ≡ text ++ package_line letter (path_at s.tree p) (name_at s.tree p) → HasLines s (p + 1) after
lines_more s p letter text after has within is_letter appended =
    let x = package_at s.tree p in
    let same : length (take p s.tree) ≡ length has.letters =
    length-take-le p s.tree (omega arith) ∙ sym (length-range_with_len 0 p) ∙ letters_length s (range_with_len 0 p) has.letters has.are_letters in
    let R : List ℕ → Type 0 = λ ps. AllZip (HasLetter s) ps (has.letters ++ letter ∷ []) in
    let line : Package × Letter → Text = λ pair. package_line pair.1 pair.0.path pair.0.name in
    let pairs : zip (take (p + 1) s.tree) (has.letters ++ letter ∷ []) ≡ zip (take p s.tree) has.letters ++ (x, letter) ∷ [] =
    ap (λ (xs : List Package). zip xs (has.letters ++ letter ∷ [])) (take_more s.tree p no_package within)
    ∙ pairs_more (take p s.tree) has.letters x letter same in
    let all : package_lines (take (p + 1) s.tree) (has.letters ++ letter ∷ [])
    ≡ package_lines (take p s.tree) has.letters ++ (package_line letter x.path x.name ++ []) =
    ap (flat_map line) pairs ∙ flat_map-append line (zip (take p s.tree) has.letters) ((x, letter) ∷ []) in
    record {
      letters = has.letters ++ letter ∷ [];
      are_letters = subst R (sym (range_next p)) (letters_more s (range_with_len 0 p) has.letters p letter has.are_letters is_letter);
      lines = appended ∙ ap (λ (t : Text). t ++ package_line letter x.path x.name) has.lines
          ∙ ap (λ (t : Text). package_lines (take p s.tree) has.letters ++ t) (sym (append-nil (package_line letter x.path x.name))) ∙ sym all;
    }

-- all packages have their lines
pub all_lines : (s : State) (p : ℕ) (text : Text) → HasLines s p text → p ≡ length s.tree
    → (letters : List Letter) × AreLetters s letters × (text ≡ package_lines s.tree letters)
all_lines s p text has end =
    let R : ℕ → Type 0 = λ n. AllZip (HasLetter s) (range_with_len 0 n) has.letters in
    let whole : take p s.tree ≡ s.tree = ap (λ n. take n s.tree) end ∙ take-length s.tree in
    (has.letters, subst R end has.are_letters, has.lines ∙ ap (λ (xs : List Package). package_lines xs has.letters) whole)
