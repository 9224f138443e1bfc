-- Reversed dependency lists, and where they lead from the marked packages.
use Rattle.std.proofs.Common.{◌≡◌, ◌+◌, ◌<◌, ◌≤◌, ◌++◌, ◌∷◌, [], ℕ, Bool, true, false, All, Contains, List, cond, filter, get_or, length, nat_eq, set, sym, ap, ◌∙◌, subst, inl, inr, ⊎_elim, arith}
use borrow.Author.Count.{below_more}
use Rattle.std.proofs.lemmas.Bool.{and_from, and_parts, cases_lt}
use Rattle.std.proofs.lemmas.List.{append-nil, get_or_past, length-set}
use Rattle.std.proofs.lemmas.List.Elements.{All-contains, Contains-append_cases, Contains-append_left, Contains-append_right, Contains-get_or}
use Rattle.std.proofs.lemmas.List.Sums.{sum_by-append}
use Rattle.std.specs.List.{range_with_len}
use Rattle.graph.specs.Lists.{AreReversed, list_at, times}
use Rattle.graph.specs.Marks.{has_mark}
use Rattle.graph.specs.Reach.{AreReachedFrom, IsReachedFrom}
use Rattle.graph.proofs.Lists.{contained-times, get_or-same, times-contained}
use Rattle.graph.proofs.Marked.{has_mark-same, marked_after, marked_before}
use Rattle.graph.proofs.Turned.{AreReversed-more, turned, turned_back}
use Rattle.listing.specs.Tree.{ArePositions, IsTree, Tree, build_at, is_marked_at, no_package, run_at}
use Rattle.engine.specs.Ignored.{HoldsTheMarked}
use Rattle.engine.specs.Units.{positions}
use Rattle.engine.specs.shared.Marks.{AreIgnored, AreMarksOf, deps_at, marked_of}
use Rattle.engine.proofs.Lists.{below_in, contains_in, filter_next, in_below, in_contains, in_kept}

-- ---- what a package depends on is listed, and so is the package

-- a position that is out of range has an empty list
listed_by : (tree : Tree) (x d : ℕ) (ps : List ℕ) → (x < length tree → ArePositions tree ps) → (length tree ≤ x → ps ≡ []) → Contains ps d → (x < length tree) × (d < length tree)
listed_by tree x d ps are past needed = elim (cases_lt x (length tree)) [
  | inl within ↦ (within, All-contains (λ p. p < length tree) ps d (are within).within needed)
  | inr after ↦ absurd (omega (arith, needed.1, ap length (past after)))
]

pub run_listed : (tree : Tree) → IsTree tree → (x d : ℕ) → Contains (run_at tree x) d → (x < length tree) × (d < length tree)
run_listed tree is x d = listed_by tree x d (run_at tree x) (λ within. is.run x no_package within) (λ past. ap (λ q. q.run) (get_or_past tree x no_package past))

build_listed : (tree : Tree) → IsTree tree → (x d : ℕ) → Contains (build_at tree x) d → (x < length tree) × (d < length tree)
build_listed tree is x d = listed_by tree x d (build_at tree x) (λ within. is.build x no_package within) (λ past. ap (λ q. q.build) (get_or_past tree x no_package past))

deps_listed : (tree : Tree) → IsTree tree → (x d : ℕ) → Contains (deps_at tree x) d → (x < length tree) × (d < length tree)
deps_listed tree is x d needed = ⊎_elim (build_listed tree is x d) (run_listed tree is x d) (Contains-append_cases (build_at tree x) (run_at tree x) d needed)

-- ---- the lists are reversed

added_twice : (b : Bool) (before mid after build run both : ℕ) → mid ≡ before + cond b build 0 → after ≡ mid + cond b run 0 → both ≡ build + run
    → after ≡ before + cond b both 0
added_twice true before mid after build run both first second sum = omega arith
added_twice false before mid after build run both first second sum = omega arith

-- one more package
pub dependents_more : (tree : Tree) (n : ℕ) (lists mid more : List (List ℕ)) → AreReversed (length tree) n (deps_at tree) lists
    → length mid ≡ length lists → ((d x : ℕ) → times x (list_at mid d) ≡ times x (list_at lists d) + cond (nat_eq n x) (times d (build_at tree n)) 0)
    → length more ≡ length mid → ((d x : ℕ) → times x (list_at more d) ≡ times x (list_at mid d) + cond (nat_eq n x) (times d (run_at tree n)) 0)
    → AreReversed (length tree) (n + 1) (deps_at tree) more
dependents_more tree n lists mid more are each_mid build each_more run =
    AreReversed-more (length tree) n (deps_at tree) lists more are (each_more ∙ each_mid)
    (λ d x. added_twice (nat_eq n x) _ _ _ _ _ (times d (deps_at tree n)) (build d x) (run d x) (sum_by-append (λ q. cond (nat_eq q d) 1 0) (build_at tree n) (run_at tree n)))

-- ---- the marked ones

pub marked_more : (tree : Tree) (n : ℕ) (marked : List ℕ) → marked ≡ filter (is_marked_at tree) (range_with_len 0 n) → is_marked_at tree n ≡ true
    → marked ++ n ∷ [] ≡ filter (is_marked_at tree) (range_with_len 0 (n + 1))
marked_more tree n marked was here =
    ap (λ ps. ps ++ n ∷ []) was ∙ sym (filter_next (is_marked_at tree) n ∙ ap (λ b. filter (is_marked_at tree) (range_with_len 0 n) ++ cond b (n ∷ []) []) here)

pub marked_same : (tree : Tree) (n : ℕ) (marked : List ℕ) → marked ≡ filter (is_marked_at tree) (range_with_len 0 n) → is_marked_at tree n ≡ false
    → marked ≡ filter (is_marked_at tree) (range_with_len 0 (n + 1))
marked_same tree n marked was not_here =
    was ∙ sym (filter_next (is_marked_at tree) n ∙ ap (λ b. filter (is_marked_at tree) (range_with_len 0 n) ++ cond b (n ∷ []) []) not_here ∙ append-nil _)

into_marked : (tree : Tree) (p : ℕ) → p < length tree → is_marked_at tree p ≡ true → Contains (marked_of tree) p
into_marked tree p within marked = in_contains (marked_of tree) p (in_kept (is_marked_at tree) (positions tree) p ∙ and_from _ _ (below_in (length tree) p within) marked)

from_marked : (tree : Tree) (p : ℕ) → Contains (marked_of tree) p → (p < length tree) × (is_marked_at tree p ≡ true)
from_marked tree p member =
    let parts = and_parts _ _ (sym (in_kept (is_marked_at tree) (positions tree) p) ∙ contains_in (marked_of tree) p member) in
    (in_below (length tree) p parts.0, parts.1)

pub marked_listed : (tree : Tree) → All (λ p. p < length tree) (marked_of tree)
marked_listed tree k d inside = (from_marked tree _ (Contains-get_or (marked_of tree) k d inside)).0

-- ---- marks at some positions

-- the invariant after the first n of the positions are marked
pub record IsMarking (len : ℕ) (marks : List Bool) (ps : List ℕ) (n : ℕ) : Type 0 where
  pub each : length marks ≡ len
  pub all : (k : ℕ) → k < n → has_mark marks (get_or ps k 0) ≡ true
  pub only : (p : ℕ) → has_mark marks p ≡ true → Contains ps p

pub IsMarking-more : (len : ℕ) (marks : List Bool) (ps : List ℕ) (n : ℕ) → IsMarking len marks ps n → n < length ps → get_or ps n 0 < len
    → IsMarking len (set marks (get_or ps n 0) true) ps (n + 1)
IsMarking-more len marks ps n before listed within =
    let p = get_or ps n 0 in
    record {
      each = length-set marks p true ∙ before.each;
      all = below_more (λ k. has_mark (set marks p true) (get_or ps k 0) ≡ true) n
          (λ k below. marked_after marks p (get_or ps k 0) (before.all k below)) (has_mark-same marks p true (omega (arith, within, before.each)));
      only = λ q marked. ⊎_elim (λ same. subst (Contains ps) (sym same) (Contains-get_or ps n 0 listed)) (before.only q) (marked_before marks p q marked);
    }

pub IsMarking-all : (len : ℕ) (marks : List Bool) (ps : List ℕ) (n : ℕ) → IsMarking len marks ps n → length ps ≤ n → AreMarksOf len ps marks
IsMarking-all len marks ps n are done = record {
  each = are.each;
  are = λ p. (
    are.only p,
    λ member. ap (has_mark marks) (sym (get_or-same ps member.0 0 p member.1 ∙ member.2)) ∙ are.all member.0 (omega (arith, member.1)),
  );
}

-- ---- the ignored packages

-- if nothing is marked, nothing is ignored
pub none_ignored : (tree : Tree) (marked : List ℕ) (marks : List Bool) → marked ≡ marked_of tree → length marked ≡ 0
    → AreMarksOf (length tree) marked marks → AreIgnored tree marks
none_ignored tree marked marks is none marks_are =
    let unmarked : (p : ℕ) → has_mark marks p ≡ true → ⊥ = λ p marked. let there = (marks_are.are p).0 marked in omega (arith, none, there.1) in
    record {
      each = marks_are.each;
      spread = record {
        marked = λ p within marked. (marks_are.are p).1 (subst (λ ps. Contains ps p) (sym is) (into_marked tree p within marked));
        build = λ p d within build marked. absurd (unmarked d marked);
        run = λ p d within run marked. absurd (unmarked d marked);
      };
      ignored = λ p marked. absurd (unmarked p marked);
    }

module _ (tree : Tree) (is : IsTree tree) {lists : List (List ℕ)} (are : AreReversed (length tree) (length tree) (deps_at tree) lists)
    (found : List ℕ) (reached : AreReachedFrom (list_at lists) (marked_of tree) found) where
  found_reached : (p : ℕ) → Contains found p → IsReachedFrom (list_at lists) (marked_of tree) p
  found_reached p member = elim (reached p) [
    | inl (leads, one) ↦ leads
    | inr (leads_not, none) ↦ absurd (omega (arith, none, times-contained p found member))
  ]

  reached_found : (p : ℕ) → IsReachedFrom (list_at lists) (marked_of tree) p → Contains found p
  reached_found p leads = elim (reached p) [
    | inl (leads', one) ↦ contained-times p found (omega (arith, one))
    | inr (leads_not, none) ↦ absurd (leads_not leads)
  ]

  -- everything found is in each set that contains the marked packages
  found_held : (S : ℕ → Bool) → HoldsTheMarked tree S → (p : ℕ) → Contains found p → S p ≡ true
  found_held S holds p member = found_reached p member S
      (λ k d inside. let marked = from_marked tree _ (Contains-get_or (marked_of tree) k d inside) in holds.marked _ marked.0 marked.1)
      (λ x d in_S listed.
      let needed = turned_back are x d listed in
      let within = (deps_listed tree is d x needed).0 in
      ⊎_elim (λ build. holds.build d x within build in_S) (λ run. holds.run d x within run in_S) (Contains-append_cases (build_at tree d) (run_at tree d) x needed))

  -- the marked packages are found, and so is what depends on a found one
  pub found_ignored : (marks : List Bool) → AreMarksOf (length tree) found marks → AreIgnored tree marks
  found_ignored marks marks_are = record {
    each = marks_are.each;
    spread = record {
      marked = λ p within marked. (marks_are.are p).1 (reached_found p (λ S all closed. All-contains (λ x. S x ≡ true) (marked_of tree) p all (into_marked tree p within marked)));
      build = λ p d within build marked. depends p d (Contains-append_left (build_at tree p) (run_at tree p) d build) marked;
      run = λ p d within run marked. depends p d (Contains-append_right (build_at tree p) (run_at tree p) d run) marked;
    };
    ignored = λ p marked S holds. found_held S holds p ((marks_are.are p).0 marked);
  }
    where
      depends : (p d : ℕ) → Contains (deps_at tree p) d → has_mark marks d ≡ true → has_mark marks p ≡ true
      depends p d needed marked = (marks_are.are p).1 (reached_found p
          (λ S all closed. closed d p (found_reached d ((marks_are.are d).0 marked) S all closed) (turned are (deps_listed tree is) p d needed)))
