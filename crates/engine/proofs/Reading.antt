-- An engine's state, read from its parts.
use Rattle.std.proofs.Common.{◌≡◌, ◌≢◌, ◌+◌, ◌<◌, ◌≤◌, ℕ, suc, Bool, true, false, not, cond, List, [], ◌∷◌, Option, MatchOption, Some, None, All, Contains, get_or, length, refl, sym, ap, ◌∙◌, subst, inl, inr, arith}
use Rattle.std.proofs.Math.ListN.{get_or-map}
use Rattle.std.proofs.lemmas.Bool.{cases_lt, true≢false}
use Rattle.std.proofs.lemmas.List.{get_or_past}
use Rattle.std.proofs.lemmas.List.Elements.{All-contains, Contains-get_or}
use Rattle.std.proofs.lemmas.List.Sums.{get_or-le-sum_by, sum_by-cons}
use Rattle.std.specs.List.{AllZip, range_with_len}
use Rattle.listing.specs.Tree.{Tree, run_at}
use Rattle.engine.specs.Division.{Division, IsDivision, number_of, unit_at}
use Rattle.engine.specs.Units.{Unit}
use Rattle.engine.proofs.Once.{one_unit}
use Rattle.engine.specs.Letters.{IsInstallable}
use Rattle.engine.specs.State.{AreCounts, HasLetter, IsEngine, IsNextQueued, IsQueuedFrom, State, counts_of, has_agreed}
use Rattle.engine.specs.declared.Letter.{Letter}
use Rattle.engine.specs.declared.Letter.TheVariants.{T, Q, B, I, Ignored}
use Rattle.graph.specs.Walked.{Walked}
use Rattle.engine.specs.shared.Agreed.{held_marks, marked_set}
use Rattle.engine.specs.shared.Keeping.{AreKept, holds}
use Rattle.engine.specs.inside.Queueing.{FitsUnit, needs_of, waited_for}
use Rattle.engine.specs.shared.Shown.{is_held, is_installed, letter_at}
use Rattle.engine.proofs.Marked.{contains-marked_set}
use Rattle.engine.proofs.Numbered.{numbered_unit, unnumbered_ignored}
use Rattle.engine.proofs.OneLetter.{only_one_letter}
use Rattle.engine.proofs.Together.{not_ignored}

-- what contracts see of the letters
abbrev pub state_of : Tree → List Letter → State
state_of tree letters = record { tree = tree; agreed = marked_set (held_marks letters) }

pub held_mark : (letters : List Letter) (p : ℕ) → get_or (held_marks letters) p false ≡ holds letters p
held_mark letters p = get_or-map is_held letters p Ignored

pub agreed_is_held : (tree : Tree) (letters : List Letter) (p : ℕ) → has_agreed (state_of tree letters) p ≡ holds letters p
agreed_is_held tree letters p = contains-marked_set (held_marks letters) p ∙ held_mark letters p

-- a position with another letter than Ignored is in range
pub letter_within : (letters : List Letter) (p : ℕ) → letter_at letters p ≢ Ignored → p < length letters
letter_within letters p other = elim (cases_lt p (length letters)) [
  | inl within ↦ within
  | inr past ↦ absurd (other (get_or_past letters p Ignored past))
]

installed_is : (l : Letter) → is_installed l ≡ true → l ≡ I
installed_is T e = absurd (true≢false (sym e))
installed_is Q e = absurd (true≢false (sym e))
installed_is B e = absurd (true≢false (sym e))
installed_is I e = refl
installed_is Ignored e = absurd (true≢false (sym e))

-- if none is waited for, all are installable
pub none_waited : (letters : List Letter) (ps : List ℕ) (q : ℕ) → waited_for letters ps ≡ 0 → Contains ps q → letter_at letters q ≡ I
none_waited letters ps q none (k, within, is) = installed_is (letter_at letters q) (go (is_installed (letter_at letters q)) refl)
  where
    go : (b : Bool) → is_installed (letter_at letters q) ≡ b → is_installed (letter_at letters q) ≡ true
    go true e = e
    go false e =
        let test : ℕ → ℕ = λ x. cond (not (is_installed (letter_at letters x))) 1 0 in
        let at : test (get_or ps k q) ≤ waited_for letters ps = get_or-le-sum_by test ps k q within in
        let one : test (get_or ps k q) ≡ 1 = ap test is ∙ ap (λ b. cond (not b) 1 0) e in
        absurd (omega (arith, at, one, none))

-- if some are waited for, one is not installable
some_waited : (letters : List Letter) (ps : List ℕ) → 0 < waited_for letters ps → (q : ℕ) × Contains ps q × (is_installed (letter_at letters q) ≡ false)
some_waited letters [] some = absurd (omega arith)
some_waited letters (p ∷ ps) some = go (is_installed (letter_at letters p)) refl (λ rest. some_waited letters ps rest)
  where
    go : (b : Bool) → is_installed (letter_at letters p) ≡ b → (0 < waited_for letters ps → (q : ℕ) × Contains ps q × (is_installed (letter_at letters q) ≡ false))
        → (q : ℕ) × Contains (p ∷ ps) q × (is_installed (letter_at letters q) ≡ false)
    go false e later = (p, (0, omega arith, refl), e)
    go true e later =
        let test : ℕ → ℕ = λ x. cond (not (is_installed (letter_at letters x))) 1 0 in
        let none : test p ≡ 0 = ap (λ b. cond (not b) 1 0) e in
        let rest = later (omega (arith, some, none, sum_by-cons test p ps)) in
        (rest.0, (suc rest.1.0, omega (arith, rest.1.1), rest.1.2), rest.2)

zip_from : (R : ℕ → Letter → Type 0) (a : ℕ) (ls : List Letter) → ((k : ℕ) → k < length ls → R (a + k) (get_or ls k Ignored)) → AllZip R (range_with_len a (length ls)) ls
zip_from R a [] each = tt
zip_from R a (l ∷ ls) each = (
  let e : a + 0 ≡ a = omega arith in subst (λ (x : ℕ). R x l) e (each 0 (omega arith)),
  zip_from R (a + 1) ls (λ k within. let e : a + suc k ≡ a + 1 + k = omega arith in subst (λ (x : ℕ). R x (get_or ls k Ignored)) e (each (suc k) (omega arith))),
)

module _ {d : Division} {letters : List Letter} {lacks waiting : List ℕ} {runs needs : List (List ℕ)} {search : Walked} (kept : AreKept d letters lacks waiting runs needs search) where
  is_division : IsDivision d
  is_division = kept.queueing.are_fitting.division

  -- a package with the letter I is installable
  installable_from : (p : ℕ) → letter_at letters p ≡ I → IsInstallable d.tree (has_agreed (state_of d.tree letters)) p
  installable_from p is = record {
    among = λ q. is_installed (letter_at letters q);
    member = ap is_installed is;
    all_held = λ q e. agreed_is_held d.tree letters q ∙ ap is_held (installed_is (letter_at letters q) e);
    closed = λ q x e needed.
        let at = installed_is (letter_at letters q) e in
        let within = letter_within letters q (λ ignored. let f : I ≡ Ignored = sym at ∙ ignored in cc) in
        let inside : q < length d.tree = omega (arith, within, kept.queueing.are_fitting.each_letter) in
        ap is_installed (none_waited letters (run_at d.tree q) x (sym (kept.are_lacks q inside) ∙ kept.installed q at) needed);
  }

  not_installed : (q : ℕ) (l : Letter) → letter_at letters q ≡ l → is_installed l ≡ false → IsInstallable d.tree (has_agreed (state_of d.tree letters)) q → ⊥
  not_installed q T is e i = true≢false (sym (i.all_held q i.member) ∙ agreed_is_held d.tree letters q ∙ ap is_held is)
  not_installed q Q is e i = true≢false (sym (i.all_held q i.member) ∙ agreed_is_held d.tree letters q ∙ ap is_held is)
  not_installed q Ignored is e i = true≢false (sym (i.all_held q i.member) ∙ agreed_is_held d.tree letters q ∙ ap is_held is)
  not_installed q I is e i = true≢false e
  not_installed q B is e i =
      let same : has_agreed (state_of d.tree letters) ≡ holds letters = λ k x. agreed_is_held d.tree letters x k in
      kept.built q is (subst (λ (test : ℕ → Bool). IsInstallable d.tree test q) same i)

  has_letter_of : (p : ℕ) → p < length d.tree → (l : Letter) → letter_at letters p ≡ l → FitsUnit d waiting p l → HasLetter (state_of d.tree letters) p l
  has_letter_of p within I is fits = (agreed_is_held d.tree letters p ∙ ap is_held is, installable_from p is)
  has_letter_of p within B is fits = (agreed_is_held d.tree letters p ∙ ap is_held is, not_installed p B is refl)
  has_letter_of p within Ignored is fits = (agreed_is_held d.tree letters p ∙ ap is_held is, unnumbered_ignored d p is_division within fits)
  has_letter_of p within Q is (u, number, none) =
      let unit = numbered_unit d p u is_division number in (
        agreed_is_held d.tree letters p ∙ ap is_held is,
        not_ignored d.tree p (unit_at d u) unit.1,
        record {
          unit = unit_at d u;
          of_unit = unit.1;
          installable = λ k x inside.
              let q = get_or (needs_of d u) k x in
              let letter = none_waited letters (needs_of d u) q (sym (kept.queueing.waited u unit.0) ∙ none) (Contains-get_or (needs_of d u) k x inside) in
              installable_from q letter;
        },
      )
  has_letter_of p within T is (u, number, some) =
      let unit = numbered_unit d p u is_division number in (
        agreed_is_held d.tree letters p ∙ ap is_held is,
        not_ignored d.tree p (unit_at d u) unit.1,
        λ can.
            let one = some_waited letters (needs_of d u) (omega (arith, some, kept.queueing.waited u unit.0)) in
            let all = subst (λ (v : Unit). All (IsInstallable d.tree (has_agreed (state_of d.tree letters))) v.build) (one_unit d.tree p can.unit (unit_at d u) can.of_unit unit.1) can.installable in
            not_installed one.0 (letter_at letters one.0) refl one.2 (All-contains (IsInstallable d.tree (has_agreed (state_of d.tree letters))) (needs_of d u) one.0 all one.1),
      )

  pub has_letter : (p : ℕ) → p < length d.tree → HasLetter (state_of d.tree letters) p (letter_at letters p)
  has_letter p within = has_letter_of p within (letter_at letters p) refl (kept.queueing.are_fitting.fit p within)

  -- a package whose letter isn't Ignored is stored with another letter
  pub other_than_ignored : (p : ℕ) → p < length d.tree → ¬ HasLetter (state_of d.tree letters) p Ignored → letter_at letters p ≢ Ignored
  other_than_ignored p within other is = other (subst (HasLetter (state_of d.tree letters) p) is (has_letter p within))

  queued_shown : (p : ℕ) → p < length d.tree → HasLetter (state_of d.tree letters) p Q → letter_at letters p ≡ Q
  queued_shown p within queued = only_one_letter d.tree (has_agreed (state_of d.tree letters)) p (letter_at letters p) Q (has_letter p within) queued

  pub is_queued_from : (from : ℕ) (o : Option ℕ)
      → MatchOption o ((p : ℕ) → from ≤ p → letter_at letters p ≢ Q) (λ p. (from ≤ p) × (letter_at letters p ≡ Q) × ((k : ℕ) → from ≤ k → k < p → letter_at letters k ≢ Q))
      → IsQueuedFrom (state_of d.tree letters) from o
  is_queued_from from None none = λ p behind within queued. none p behind (queued_shown p within queued)
  is_queued_from from (Some p) (behind, here, before) =
      let inside = letter_within letters p (λ ignored. let e : Q ≡ Ignored = sym here ∙ ignored in cc) in
      let within : p < length d.tree = omega (arith, inside, kept.queueing.are_fitting.each_letter) in (
        behind,
        within,
        subst (HasLetter (state_of d.tree letters) p) here (has_letter p within),
        λ k later earlier queued. before k later earlier (queued_shown k (omega (arith, earlier, within)) queued),
      )

  pub are_counts : AreCounts (state_of d.tree letters) (counts_of letters)
  are_counts = (
    letters,
    subst (λ (n : ℕ). AllZip (HasLetter (state_of d.tree letters)) (range_with_len 0 n) letters) kept.queueing.are_fitting.each_letter
        (zip_from (HasLetter (state_of d.tree letters)) 0 letters (λ k inside.
        let e : k ≡ 0 + k = omega arith in
        subst (λ (x : ℕ). HasLetter (state_of d.tree letters) x (get_or letters k Ignored)) e (has_letter k (omega (arith, inside, kept.queueing.are_fitting.each_letter))))),
    refl,
  )

  held_unit : (p : ℕ) (l : Letter) → is_held l ≡ true → FitsUnit d waiting p l → (u : ℕ) × (number_of d p ≡ Some u)
  held_unit p T e fits = absurd (true≢false (sym e))
  held_unit p Q e fits = absurd (true≢false (sym e))
  held_unit p B e fits = fits
  held_unit p I e fits = fits
  held_unit p Ignored e fits = absurd (true≢false (sym e))

  pub is_engine : IsEngine (state_of d.tree letters)
  is_engine = record {
    tree = is_division.tree;
    listed = within;
    not_ignored = λ p agreed.
        let unit = held_unit p (letter_at letters p) (sym (agreed_is_held d.tree letters p) ∙ agreed) (kept.queueing.are_fitting.fit p (within p agreed)) in
        not_ignored d.tree p (unit_at d unit.0) (numbered_unit d p unit.0 is_division unit.1).1;
  }
    where
      within : (p : ℕ) → has_agreed (state_of d.tree letters) p ≡ true → p < length d.tree
      within p agreed = omega (
        arith,
        kept.queueing.are_fitting.each_letter,
        letter_within letters p (λ e. true≢false (sym (sym (agreed_is_held d.tree letters p) ∙ agreed) ∙ ap is_held e)),
      )

-- the lowest of all is the lowest from position 0 on
pub next_queued : (s : State) (o : Option ℕ) → IsQueuedFrom s 0 o → IsNextQueued s o
next_queued s None none = λ p within. none p (omega arith) within
next_queued s (Some p) (behind, within, queued, before) = (within, queued, λ k earlier. before k (omega arith) earlier)
