-- How packages that lack more than found ones are dropped, with those that need them.
use Rattle.std.proofs.Common.{◌≡◌, ◌+◌, ◌<◌, ◌≤◌, ◌^◌, ℕ, zero, suc, Bool, true, false, List, [], ◌∷◌, All, Contains, get_or, length, take, refl, sym, ap, ◌∙◌, subst, inl, inr, arith}
use Rattle.std.proofs.lemmas.Bool.{both_ways, cases_lt}
use Rattle.std.proofs.lemmas.List.{get_or_append_left, length-append, take-append-le}
use Rattle.std.proofs.lemmas.List.Elements.{All-append, All-contains, Contains-get_or}
use Rattle.graph.specs.Lists.{AreReversed, list_at, one_if, times}
use Rattle.graph.specs.Marks.{has_mark}
use Rattle.graph.specs.shared.Walks.{AreFound}
use Rattle.graph.proofs.Lists.{contained-times, times-contained}
use Rattle.graph.proofs.Marked.{marked_within}
use Rattle.graph.proofs.Walks.{found-marked}
use Rattle.engine.specs.inside.Searching.{Adds, AreParted, IsCaused, IsSifted, told}
use Rattle.engine.proofs.Dropping.{AreParted-itself, AreParted-through}
use Rattle.engine.proofs.Told.{told-le, told-more, told-take-le}

one_if-true : (b : Bool) → 0 < one_if b → b ≡ true
one_if-true true some = refl
one_if-true false some = absurd (omega arith)

pub one_if-most : (b : Bool) → one_if b ≤ 1
one_if-most true = omega arith
one_if-most false = omega arith

-- what holds of each element holds of all
pub All-from_contains : (P : ℕ → Type 0) (xs : List ℕ) → ((x : ℕ) → Contains xs x → P x) → All P xs
All-from_contains P xs each k d inside = each (get_or xs k d) (Contains-get_or xs k d inside)

-- the invariant after the lists of the first n dropped ones were followed
pub record IsSifting (runs : List (List ℕ)) (marks_before : List Bool) (dropped_before lacks_before : List ℕ) (marks : List Bool) (dropped lacks : List ℕ) (n : ℕ) : Type 0 where
  pub parted : AreParted marks_before marks dropped_before dropped
  pub each : length marks ≡ length marks_before
  pub each_lacks : length lacks ≡ length lacks_before
  pub reaches : n ≤ length dropped
  pub within : All (λ p. p < length runs) dropped
  pub only : (p : ℕ) → has_mark marks p ≡ true → has_mark marks_before p ≡ true
  pub raised : (p : ℕ) → p < length lacks_before → get_or lacks p 0 ≡ get_or lacks_before p 0 + told runs p (take n dropped)
  pub rest : (p : ℕ) → has_mark marks p ≡ true → get_or lacks p 0 ≡ 0
  pub some : All (λ p. 0 < get_or lacks p 0) dropped
  pub caused : IsCaused runs marks_before dropped_before dropped

pub IsSifting-start : (runs : List (List ℕ)) (marks : List Bool) (dropped lacks : List ℕ) → All (λ p. p < length runs) dropped
    → ((p : ℕ) → has_mark marks p ≡ true → get_or lacks p 0 ≡ 0) → All (λ p. 0 < get_or lacks p 0) dropped
    → IsSifting runs marks dropped lacks marks dropped lacks 0
IsSifting-start runs marks dropped lacks within rest some = record {
  parted = AreParted-itself marks dropped;
  each = refl;
  each_lacks = refl;
  reaches = omega arith;
  within = within;
  only = λ p marked. marked;
  raised = λ p listed. omega arith;
  rest = rest;
  some = some;
  caused = λ S first closed. first;
}

module _ {runs : List (List ℕ)} {marks_before : List Bool} {dropped_before lacks_before : List ℕ} {marks : List Bool} {dropped lacks : List ℕ} {n : ℕ}
    (before : IsSifting runs marks_before dropped_before lacks_before marks dropped lacks n)
    (each_run : length marks_before ≡ length runs) (each_lack : length lacks_before ≡ length runs) where
  -- the next sums don't overflow
  pub next_fits : n < length dropped
      → ((p : ℕ) (xs : List ℕ) → p < length lacks_before → ((q : ℕ) → times q xs ≤ one_if (has_mark marks_before q) + times q dropped_before)
      → get_or lacks_before p 0 + told runs p xs < 2 ^ 64)
      → (p : ℕ) → p < length lacks → get_or lacks p 0 + times p (list_at runs (get_or dropped n 0)) < 2 ^ 64
  next_fits listed fits p inside = omega (
    arith,
    fits p dropped (omega (arith, inside, before.each_lacks)) (λ q. omega (arith, before.parted.once q)),
    before.raised p (omega (arith, inside, before.each_lacks)),
    told-more runs p dropped n listed,
    told-take-le runs p dropped (n + 1),
  )

  pub IsSifting-more : (now : List Bool) (more fewer : List ℕ) → n < length dropped → length now ≡ length marks → length fewer ≡ length lacks
      → ((p : ℕ) → p < length lacks → get_or fewer p 0 ≡ get_or lacks p 0 + times p (list_at runs (get_or dropped n 0)))
      → AreParted marks now dropped more
      → All (λ p. has_mark now p ≡ false) (list_at runs (get_or dropped n 0))
      → ((p : ℕ) → has_mark now p ≡ true → has_mark marks p ≡ true)
      → Adds (list_at runs (get_or dropped n 0)) marks dropped more
      → IsSifting runs marks_before dropped_before lacks_before now more fewer (n + 1)
  IsSifting-more now more fewer listed each each_fewer raised parted gone only (added, is, new) = record {
    parted = AreParted-through before.parted parted;
    each = each ∙ before.each;
    each_lacks = each_fewer ∙ before.each_lacks;
    reaches = omega (arith, listed, longer);
    within = subst (All (λ p. p < length runs)) (sym is) (All-append (λ p. p < length runs) dropped added before.within
        (λ k d inside. omega (arith, marked_within marks (get_or added k d) (new k d inside).1, before.each, each_run)));
    only = λ p marked. before.only p (only p marked);
    raised = λ p inside. omega (
      arith,
      raised p (omega (arith, inside, before.each_lacks)),
      before.raised p inside,
      told-more runs p more n (omega (arith, listed, longer)),
      ap (told runs p) taken,
      ap (λ x. times p (list_at runs x)) at_n,
    );
    rest = λ p marked. elim (cases_lt 0 (times p needing)) [
      | inl some ↦ absurd (both_ways (has_mark now p) (All-contains (λ x. has_mark now x ≡ false) needing p gone (contained-times p needing some)) marked)
      | inr none ↦ omega (arith, none, before.rest p (only p marked), raised p (omega (arith, marked_within marks p (only p marked), before.each, before.each_lacks, each_run, each_lack)))
    ];
    some = subst (All (λ p. 0 < get_or fewer p 0)) (sym is) (All-append (λ p. 0 < get_or fewer p 0) dropped added
        (λ k d inside. omega (arith, before.some k d inside, raised (get_or dropped k d) (omega (arith, before.within k d inside, before.each_lacks, each_lack))))
        (λ k d inside. omega (
          arith,
          times-contained (get_or added k d) needing (new k d inside).0,
          raised (get_or added k d) (omega (arith, marked_within marks (get_or added k d) (new k d inside).1, before.each, before.each_lacks, each_run, each_lack)),
        )));
    caused = λ S first closed. subst (All (λ q. S q ≡ true)) (sym is) (All-append (λ q. S q ≡ true) dropped added (before.caused S first closed)
        (λ k d inside. closed (get_or dropped n 0) (get_or added k d) (before.caused S first closed n 0 listed) (new k d inside).0
        (before.only (get_or added k d) (new k d inside).1)));
  }
    where
      needing : List ℕ
      needing = list_at runs (get_or dropped n 0)

      longer : length dropped ≤ length more
      longer = omega (arith, ap length is, length-append dropped added)

      taken : take n more ≡ take n dropped
      taken = ap (take n) is ∙ take-append-le n dropped added (omega (arith, listed))

      at_n : get_or more n 0 ≡ get_or dropped n 0
      at_n = ap (λ ds. get_or ds n 0) is ∙ get_or_append_left dropped added 0 n listed

  pub raised-all : length dropped ≤ n → (p : ℕ) → p < length lacks_before → get_or lacks p 0 ≡ get_or lacks_before p 0 + told runs p dropped
  raised-all done p inside = before.raised p inside ∙ ap (λ xs. get_or lacks_before p 0 + told runs p xs) (take_whole n dropped done)
    where
      take_whole : (k : ℕ) (xs : List ℕ) → length xs ≤ k → take k xs ≡ xs
      take_whole zero [] all = refl
      take_whole (suc k) [] all = refl
      take_whole zero (x ∷ xs) all = absurd (omega (arith, all))
      take_whole (suc k) (x ∷ xs) all = ap (λ ys. x ∷ ys) (take_whole k xs (omega (arith, all)))

-- ---- the whole search

pub found_within : (runs : List (List ℕ)) (found : List ℕ) (marks : List Bool) → AreFound marks found → length marks ≡ length runs → All (λ p. p < length runs) found
found_within runs found marks are_found each =
    All-from_contains (λ p. p < length runs) found (λ x listed. omega (arith, marked_within marks x (found-marked are_found x listed), each))

pub dropped_marked : (marks left : List Bool) (dropped : List ℕ) → AreParted marks left [] dropped → (p : ℕ) → Contains dropped p → has_mark marks p ≡ true
dropped_marked marks left dropped parted p listed = one_if-true (has_mark marks p) (omega (arith, parted.once p, times-contained p dropped listed))

pub marked_before : (marks left : List Bool) (dropped : List ℕ) → AreParted marks left [] dropped → (p : ℕ) → has_mark left p ≡ true → has_mark marks p ≡ true
marked_before marks left dropped parted p marked = one_if-true (has_mark marks p) (omega (arith, parted.once p, ap one_if marked))

pub first_within : (runs : List (List ℕ)) (marks left : List Bool) (dropped : List ℕ) → AreParted marks left [] dropped → length marks ≡ length runs → All (λ p. p < length runs) dropped
first_within runs marks left dropped parted each = All-from_contains (λ p. p < length runs) dropped
    (λ x listed. omega (arith, marked_within marks x (dropped_marked marks left dropped parted x listed), each))

module _ (runs : List (List ℕ)) (found : List ℕ) (marks first_left : List Bool) (first before mid : List ℕ)
    (are_found : AreFound marks found) (each : length marks ≡ length runs) (each_lack : length before ≡ length runs) (each_mid : length mid ≡ length before)
    (lowered : (p : ℕ) → p < length before → get_or mid p 0 + told runs p found ≡ get_or before p 0)
    (parted : AreParted marks first_left [] first) where
  inside_runs : All (λ p. p < length runs) found
  inside_runs = found_within runs found marks are_found each

  -- sums over the lists of found ones don't overflow
  pub sums_fit : (next : ℕ → List ℕ) → AreReversed (length runs) (length runs) next runs → ((p : ℕ) → p < length before → get_or before p 0 < 2 ^ 64)
      → (p : ℕ) (xs : List ℕ) → p < length mid → ((q : ℕ) → times q xs ≤ one_if (has_mark first_left q) + times q first)
      → get_or mid p 0 + told runs p xs < 2 ^ 64
  sums_fit next turned fit p xs inside fewer = omega (
    arith,
    lowered p (omega (arith, inside, each_mid)),
    fit p (omega (arith, inside, each_mid)),
    told-le turned p (omega (arith, inside, each_mid, each_lack)) xs found
        (All-from_contains (λ x. x < length runs) xs (λ x listed. All-contains (λ y. y < length runs) found x inside_runs
        (contained-times x found (omega (arith, fewer' x, times-contained x xs listed))))) inside_runs fewer',
  )
    where
      fewer' : (q : ℕ) → times q xs ≤ times q found
      fewer' q = omega (arith, fewer q, parted.once q, are_found.once q)

  pub IsSifted-all : (left : List Bool) (dropped now : List ℕ)
      → AreParted first_left left first dropped
      → ((p : ℕ) → p < length mid → get_or now p 0 ≡ get_or mid p 0 + told runs p dropped)
      → ((p : ℕ) → has_mark left p ≡ true → get_or now p 0 ≡ 0) → All (λ p. 0 < get_or now p 0) dropped
      → All (λ p. 0 < get_or mid p 0) first
      → IsCaused runs first_left first dropped → IsSifted runs found marks left dropped before now
  IsSifted-all left dropped now later raised rest some some_first caused = record {
    parted = AreParted-through parted later;
    lacked = λ p inside. omega (arith, raised p (omega (arith, inside, each_mid)), lowered p inside);
    rest = rest;
    some = some;
    caused = λ S enough closed. caused S
        (All-from_contains (λ q. S q ≡ true) first (λ y listed. enough y (dropped_marked marks first_left first parted y listed) (omega (
          arith,
          All-contains (λ p. 0 < get_or mid p 0) first y some_first listed,
          lowered y (omega (arith, marked_within marks y (dropped_marked marks first_left first parted y listed), each, each_lack)),
        ))))
        (λ x y in_S listed marked. closed x y in_S listed (one_if-true (has_mark marks y) (omega (arith, parted.once y, ap one_if marked))));
  }
