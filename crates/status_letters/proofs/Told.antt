-- Letters, by what is held and what is not installable.
use Rattle.std.proofs.Common.{◌≡◌, ◌+◌, ◌<◌, ◌++◌, ◌∷◌, [], ℕ, Bool, true, false, None, Some, List, All, Contains, get_or, length, refl, sym, ap, ◌∙◌, subst, inl, inr, arith}
use Rattle.std.proofs.lemmas.Bool.{both_ways, cases_lt}
use Rattle.std.proofs.lemmas.List.{get_or_append_left, get_or_past, get_or_push}
use Rattle.std.proofs.lemmas.List.Elements.{All-contains}
use Rattle.graph.specs.Marks.{has_mark}
use Rattle.listing.specs.Tree.{IsTree, Tree}
use Rattle.std.specs.List.{AllZip, range_with_len}
use Rattle.engine.specs.Division.{Division, IsDivision, number_of, unit_at}
use Rattle.engine.specs.Units.{Unit}
use Rattle.engine.proofs.Once.{one_unit}
use Rattle.engine.specs.Letters.{IsInstallable, IsLetter}
use Rattle.engine.specs.State.{AreCounts, HasLetter, counts_of, has_agreed}
use Rattle.engine.specs.declared.Letter.{Letter}
use Rattle.engine.specs.declared.Letter.TheVariants.{T, Q, B, I, Ignored}
use Rattle.engine.specs.shared.Agreed.{held_marks}
use Rattle.engine.specs.shared.Keeping.{holds}
use Rattle.engine.specs.shared.Shown.{is_held, letter_at}
use Rattle.engine.proofs.Marked.{contains-marked_set}
use Rattle.engine.proofs.Numbered.{numbered_unit, unnumbered_ignored}
use Rattle.engine.proofs.Reading.{held_mark, state_of}
use Rattle.engine.proofs.Together.{not_ignored}
use Rattle.status_letters.specs.inside.Keeping.{AreLettersOf, AreShown}
use Rattle.status_letters.specs.inside.Lacking.{AreLacking}
use Rattle.status_letters.proofs.Tallied.{zip_from}

-- ---- one letter

module _ (d : Division) (is : IsDivision d) (held lacking : List Bool) (are : AreLacking d.tree (has_mark held) (has_mark lacking)) (p : ℕ) (within : p < length d.tree) where
  pub installable : has_mark held p ≡ true → has_mark lacking p ≡ false → IsLetter d.tree (has_mark held) p I
  installable here lacks_not = (here, (are p within).0 lacks_not)

  pub built : has_mark held p ≡ true → has_mark lacking p ≡ true → IsLetter d.tree (has_mark held) p B
  built here lacks = (here, λ i. both_ways (has_mark lacking p) ((are p within).1 i) lacks)

  pub ignored : has_mark held p ≡ false → number_of d p ≡ None → IsLetter d.tree (has_mark held) p Ignored
  ignored out none = (out, unnumbered_ignored d p is within none)

  module _ (u : ℕ) (out : has_mark held p ≡ false) (number : number_of d p ≡ Some u) (listed : All (λ q. q < length d.tree) (unit_at d u).build) where
    pub queued : All (λ q. has_mark lacking q ≡ false) (unit_at d u).build → IsLetter d.tree (has_mark held) p Q
    queued none =
        let unit = numbered_unit d p u is number in (
          out,
          not_ignored d.tree p (unit_at d u) unit.1,
          record {
            unit = unit_at d u;
            of_unit = unit.1;
            installable = λ k x inside. (are _ (listed k x inside)).0 (none k x inside);
          },
        )

    pub waiting : (q : ℕ) → Contains (unit_at d u).build q → has_mark lacking q ≡ true → IsLetter d.tree (has_mark held) p T
    waiting q needed lacks =
        let unit = numbered_unit d p u is number in (
          out,
          not_ignored d.tree p (unit_at d u) unit.1,
          λ can.
              let all = subst (λ (v : Unit). All (IsInstallable d.tree (has_mark held)) v.build) (one_unit d.tree p can.unit (unit_at d u) can.of_unit unit.1) can.installable in
              let i = All-contains (IsInstallable d.tree (has_mark held)) (unit_at d u).build q all needed in
              both_ways (has_mark lacking q) ((are q (All-contains (λ x. x < length d.tree) (unit_at d u).build q listed needed)).1 i) lacks,
        )

-- ---- all letters

-- one more letter
pub letters_more : (tree : Tree) (held : ℕ → Bool) (letters : List Letter) (p : ℕ) (letter : Letter) → length letters ≡ p
    → ((q : ℕ) → q < p → IsLetter tree held q (letter_at letters q)) → IsLetter tree held p letter
    → (q : ℕ) → q < p + 1 → IsLetter tree held q (letter_at (letters ++ letter ∷ []) q)
letters_more tree held letters p letter each are here q below = elim (cases_lt q p) [
  | inl before ↦ subst (IsLetter tree held q) (sym (get_or_append_left letters (letter ∷ []) Ignored q (omega (arith, before, each)))) (are q before)
  | inr past ↦
      let same : q ≡ p = omega (arith, past, below) in
      subst (IsLetter tree held q) (sym (get_or_push letters letter Ignored q (omega (arith, same, each)))) (subst (λ (x : ℕ). IsLetter tree held x letter) (sym same) here)
]

-- the letter determines whether the package is held
letter_held : (tree : Tree) (held : ℕ → Bool) (p : ℕ) (l : Letter) → IsLetter tree held p l → held p ≡ is_held l
letter_held tree held p T is = is.0
letter_held tree held p Q is = is.0
letter_held tree held p B is = is.0
letter_held tree held p I is = is.0
letter_held tree held p Ignored is = is.0

module _ (tree : Tree) (is_tree : IsTree tree) (marks : List Bool) (letters : List Letter) (each_mark : length marks ≡ length tree) (each : length letters ≡ length tree)
    (are : AreLettersOf tree (has_mark marks) letters) where
  -- the held packages are those with marks
  pub held_marked : (p : ℕ) → holds letters p ≡ has_mark marks p
  held_marked p = elim (cases_lt p (length tree)) [
    | inl within ↦ sym (letter_held tree (has_mark marks) p (letter_at letters p) (are p within))
    | inr past ↦ ap is_held (get_or_past letters p Ignored (omega (arith, past, each))) ∙ sym (get_or_past marks p false (omega (arith, past, each_mark)))
  ]

  pub are_shown : AreShown tree letters
  are_shown = record {
    few = is_tree;
    each = each;
    are =
        let same : has_mark marks ≡ holds letters = λ i p. sym (held_marked p) i in
        subst (λ (held : ℕ → Bool). AreLettersOf tree held letters) same are;
  }

-- ---- what contracts see

-- the agreed packages are those with a letter of held ones
pub shown_agreed : (tree : Tree) (letters : List Letter) (p : ℕ) → has_agreed (state_of tree letters) p ≡ holds letters p
shown_agreed tree letters p = contains-marked_set (held_marks letters) p ∙ held_mark letters p

module _ {tree : Tree} {letters : List Letter} (shown : AreShown tree letters) where
  pub has_letter : (p : ℕ) → p < length tree → HasLetter (state_of tree letters) p (letter_at letters p)
  has_letter p within =
      let same : holds letters ≡ has_agreed (state_of tree letters) = λ i q. sym (shown_agreed tree letters q) i in
      subst (λ (held : ℕ → Bool). IsLetter tree held p (letter_at letters p)) same (shown.are p within)

  pub are_counts : AreCounts (state_of tree letters) (counts_of letters)
  are_counts = (
    letters,
    subst (λ (n : ℕ). AllZip (HasLetter (state_of tree letters)) (range_with_len 0 n) letters) shown.each
        (zip_from (HasLetter (state_of tree letters)) 0 letters (λ k inside.
        let e : k ≡ 0 + k = omega arith in
        subst (λ (x : ℕ). HasLetter (state_of tree letters) x (get_or letters k Ignored)) e (has_letter k (omega (arith, inside, shown.each))))),
    refl,
  )
