-- The parts of an engine if nothing is held.
use Rattle.std.proofs.Common.{◌≡◌, ◌+◌, ◌<◌, ◌^◌, ℕ, false, not, cond, List, [], ◌∷◌, get_or, length, set, refl, sym, ap, ◌∙◌, subst, inl, inr, arith}
use borrow.Author.Count.{below_more}
use Rattle.std.proofs.lemmas.Bool.{cases_eq, true≢false}
use Rattle.std.proofs.lemmas.List.{get_or-set_other, get_or-set_same}
use Rattle.std.proofs.lemmas.List.Sums.{sum_by-cons}
use Rattle.listing.specs.Tree.{run_at}
use Rattle.engine.specs.Division.{Division}
use Rattle.engine.specs.declared.Letter.{Letter}
use Rattle.engine.specs.declared.Letter.TheVariants.{T, Q, B, I, Ignored}
use Rattle.graph.specs.Walked.{Walked}
use Rattle.engine.specs.shared.Keeping.{AreKept, holds}
use Rattle.graph.specs.Lists.{AreReversed}
use Rattle.engine.specs.inside.Queueing.{AreFitting, FitsUnit, needs_of, waited_for}
use Rattle.engine.specs.shared.Shown.{is_held, is_installed, letter_at}

pub not_held_installed : (l : Letter) → is_held l ≡ false → is_installed l ≡ false
not_held_installed T e = refl
not_held_installed Q e = refl
not_held_installed B e = refl
not_held_installed I e = e
not_held_installed Ignored e = refl

-- every package is waited for
all_waited : (letters : List Letter) (ps : List ℕ) → ((p : ℕ) → holds letters p ≡ false) → waited_for letters ps ≡ length ps
all_waited letters [] none = refl
all_waited letters (p ∷ ps) none =
    let test : ℕ → ℕ = λ q. cond (not (is_installed (letter_at letters q))) 1 0 in
    let one : test p ≡ 1 = ap (λ b. cond (not b) 1 0) (not_held_installed (letter_at letters p) (none p)) in
    omega (arith, one, sum_by-cons test p ps, all_waited letters ps none)

pub AreKept-first : (d : Division) (letters : List Letter) (lacks waits : List ℕ) (runs needs : List (List ℕ)) (search : Walked) → AreFitting d letters waits
    → ((p : ℕ) → holds letters p ≡ false)
    → ((u : ℕ) → u < length d.units → get_or waits u 0 ≡ length (needs_of d u))
    → length lacks ≡ length d.tree → ((p : ℕ) → p < length d.tree → (get_or lacks p 0 ≡ length (run_at d.tree p)) × (length (run_at d.tree p) < 2 ^ 64))
    → AreReversed (length d.tree) (length d.tree) (run_at d.tree) runs
    → AreReversed (length d.tree) (length d.units) (needs_of d) needs
    → search.len ≡ length d.tree → AreKept d letters lacks waits runs needs search
AreKept-first d letters lacks waits runs needs search fitting none counted each are_lacks runs_turned needs_turned over_all = record {
  queueing = record {
    are_fitting = fitting;
    waited = λ u listed. counted u listed ∙ sym (all_waited letters (needs_of d u) none);
  };
  each = each;
  few = λ p listed. (are_lacks p listed).1;
  are_lacks = λ p listed. (are_lacks p listed).0 ∙ sym (all_waited letters (run_at d.tree p) none);
  installed = λ p is. absurd (true≢false (sym (ap is_held is) ∙ none p));
  built = λ p is. absurd (true≢false (sym (ap is_held is) ∙ none p));
  runs_turned = runs_turned;
  needs_turned = needs_turned;
  over_all = over_all;
}

-- ---- storing the letters

module _ (letters : List Letter) (n : ℕ) (letter : Letter) (inside : n < length letters) where
  pub fit_more : (d : Division) (waits : List ℕ) → FitsUnit d waits n letter → ((p : ℕ) → p < n → FitsUnit d waits p (letter_at letters p))
      → (p : ℕ) → p < n + 1 → FitsUnit d waits p (letter_at (set letters n letter) p)
  fit_more d waits here fit = below_more (λ p. FitsUnit d waits p (letter_at (set letters n letter) p)) n
      (λ p before. subst (FitsUnit d waits p) (sym (get_or-set_other letters n p letter Ignored (λ e. absurd (omega (arith, e, before))))) (fit p before))
      (subst (FitsUnit d waits n) (sym (get_or-set_same letters n letter Ignored inside)) here)

  pub none_held_more : is_held letter ≡ false → ((p : ℕ) → holds letters p ≡ false) → (p : ℕ) → holds (set letters n letter) p ≡ false
  none_held_more not_held none p = elim (cases_eq p n) [
    | inl same ↦ ap (holds (set letters n letter)) same ∙ ap is_held (get_or-set_same letters n letter Ignored inside) ∙ not_held
    | inr other ↦ ap is_held (get_or-set_other letters n p letter Ignored other) ∙ none p
  ]
