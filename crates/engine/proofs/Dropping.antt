-- How marked packages are dropped.
use Rattle.std.proofs.Common.{◌≡◌, ◌+◌, ◌<◌, ◌≤◌, ℕ, zero, suc, Bool, true, false, cond, nat_eq, List, [], ◌∷◌, ◌++◌, All, Contains, get_or, length, set, refl, sym, ap, ◌∙◌, subst, inl, inr, arith}
use borrow.Author.Count.{below_more}
use Rattle.std.proofs.lemmas.Bool.{cases_eq, eq-eqb, ne_eqb, true≢false}
use Rattle.std.proofs.lemmas.List.{append_assoc, append-nil, length-set, length_push}
use Rattle.std.proofs.lemmas.List.Elements.{All-append, All-nil, All-push, Contains-get_or}
use Rattle.std.proofs.lemmas.List.Sums.{sum_by-set}
use Rattle.graph.specs.Lists.{one_if}
use Rattle.graph.specs.Marks.{has_mark}
use Rattle.graph.proofs.Lists.{times-push}
use Rattle.graph.proofs.Marked.{has_mark-other, has_mark-same}
use Rattle.engine.specs.inside.Searching.{Adds, AreParted, marked_many}

pub one_less_marked : (marks : List Bool) (p : ℕ) → p < length marks → has_mark marks p ≡ true → marked_many (set marks p false) + 1 ≡ marked_many marks
one_less_marked marks p within marked =
    let e = sum_by-set (λ (m : Bool). cond m 1 0) marks p false false within in
    omega (arith, rw marked at e)

-- what is marked after one mark was cleared was marked before
pub marked_still : (marks : List Bool) (p q : ℕ) → p < length marks → has_mark (set marks p false) q ≡ true → has_mark marks q ≡ true
marked_still marks p q within marked = elim (cases_eq q p) [
  | inl same ↦ absurd (true≢false (sym marked ∙ ap (has_mark (set marks p false)) same ∙ has_mark-same marks p false within))
  | inr other ↦ sym (has_mark-other marks p q false other) ∙ marked
]

pub AreParted-itself : (marks : List Bool) (dropped : List ℕ) → AreParted marks marks dropped dropped
AreParted-itself marks dropped = record { once = λ p. refl; as_many = refl }

pub AreParted-through : {a b c : List Bool} {ds es fs : List ℕ} → AreParted a b ds es → AreParted b c es fs → AreParted a c ds fs
AreParted-through ab bc = record { once = λ p. bc.once p ∙ ab.once p; as_many = bc.as_many ∙ ab.as_many }

pub AreParted-one : (marks : List Bool) (dropped : List ℕ) (p : ℕ) → p < length marks → has_mark marks p ≡ true → AreParted marks (set marks p false) dropped (dropped ++ p ∷ [])
AreParted-one marks dropped p within marked = record {
  once = λ q. elim (cases_eq q p) [
    | inl same ↦
        let none : one_if (has_mark (set marks p false) q) ≡ 0 = ap (λ n. one_if (has_mark (set marks p false) n)) same ∙ ap one_if (has_mark-same marks p false within) in
        let one : one_if (has_mark marks q) ≡ 1 = ap (λ n. one_if (has_mark marks n)) same ∙ ap one_if marked in
        let more : one_if (nat_eq p q) ≡ 1 = ap one_if (eq-eqb p q (sym same)) in
        omega (arith, none, one, more, times-push q p dropped)
    | inr other ↦
        let there : one_if (has_mark (set marks p false) q) ≡ one_if (has_mark marks q) = ap one_if (has_mark-other marks p q false other) in
        let more : one_if (nat_eq p q) ≡ 0 = ap one_if (ne_eqb p q (λ e. other (sym e))) in
        omega (arith, there, more, times-push q p dropped)
  ];
  as_many = omega (arith, one_less_marked marks p within marked, length_push dropped p);
}

-- the invariant after n of the positions were examined
pub record IsDropping (marks_before : List Bool) (dropped_before : List ℕ) (marks : List Bool) (dropped positions : List ℕ) (n : ℕ) : Type 0 where
  pub parted : AreParted marks_before marks dropped_before dropped
  pub each : length marks ≡ length marks_before
  pub gone : (k : ℕ) → k < n → has_mark marks (get_or positions k 0) ≡ false
  pub only : (p : ℕ) → has_mark marks p ≡ true → has_mark marks_before p ≡ true
  pub adds : Adds positions marks_before dropped_before dropped

pub IsDropping-start : (marks : List Bool) (dropped positions : List ℕ) → IsDropping marks dropped marks dropped positions 0
IsDropping-start marks dropped positions = record {
  parted = AreParted-itself marks dropped;
  each = refl;
  gone = λ k below. absurd (omega arith);
  only = λ p marked. marked;
  adds = ([], sym (append-nil dropped), All-nil (λ y. Contains positions y × (has_mark marks y ≡ true)));
}

module _ {marks_before : List Bool} {dropped_before : List ℕ} {marks : List Bool} {dropped positions : List ℕ} {n : ℕ}
    (before : IsDropping marks_before dropped_before marks dropped positions n) where
  pub IsDropping-keeps : has_mark marks (get_or positions n 0) ≡ false → IsDropping marks_before dropped_before marks dropped positions (n + 1)
  IsDropping-keeps here = record {
    parted = before.parted;
    each = before.each;
    gone = below_more (λ k. has_mark marks (get_or positions k 0) ≡ false) n before.gone here;
    only = before.only;
    adds = before.adds;
  }

  pub IsDropping-drops : (p : ℕ) → n < length positions → get_or positions n 0 ≡ p → p < length marks → has_mark marks p ≡ true
      → IsDropping marks_before dropped_before (set marks p false) (dropped ++ p ∷ []) positions (n + 1)
  IsDropping-drops p listed is within marked = record {
    parted = AreParted-through before.parted (AreParted-one marks dropped p within marked);
    each = length-set marks p false ∙ before.each;
    gone = below_more (λ k. has_mark (set marks p false) (get_or positions k 0) ≡ false) n
        (λ k below. still_gone (get_or positions k 0) (before.gone k below))
        (ap (has_mark (set marks p false)) is ∙ has_mark-same marks p false within);
    only = λ q now. before.only q (marked_still marks p q within now);
    adds =
        let more = before.adds.0 in (
          more ++ p ∷ [],
          ap (λ ds. ds ++ p ∷ []) before.adds.1 ∙ append_assoc dropped_before more (p ∷ []),
          All-push (λ y. Contains positions y × (has_mark marks_before y ≡ true)) more p before.adds.2
              (subst (Contains positions) is (Contains-get_or positions n 0 listed), before.only p marked),
        );
  }
    where
      still_gone : (q : ℕ) → has_mark marks q ≡ false → has_mark (set marks p false) q ≡ false
      still_gone q gone = elim (cases_eq q p) [
        | inl same ↦ ap (has_mark (set marks p false)) same ∙ has_mark-same marks p false within
        | inr other ↦ has_mark-other marks p q false other ∙ gone
      ]

  -- there is room for one more
  pub room-left : (p room : ℕ) → p < length marks → has_mark marks p ≡ true → marked_many marks_before + length dropped_before ≤ room → length dropped < room
  room-left p room within marked room_for_all = omega (arith, before.parted.as_many, one_less_marked marks p within marked, room_for_all)

-- if a package lacks something, so does what is added from its list
pub dropped_one : (lacks : List ℕ) (marks : List Bool) (before now : List ℕ) (p : ℕ) → All (λ q. 0 < get_or lacks q 0) before → 0 < get_or lacks p 0
    → Adds (p ∷ []) marks before now → All (λ q. 0 < get_or lacks q 0) now
dropped_one lacks marks before now p some here (added, is, new) =
    subst (All (λ q. 0 < get_or lacks q 0)) (sym is) (All-append (λ q. 0 < get_or lacks q 0) before added some
    (λ k d inside. omega (arith, here, ap (λ x. get_or lacks x 0) (the_one (get_or added k d) (new k d inside).0))))
  where
    the_one : (y : ℕ) → Contains (p ∷ []) y → y ≡ p
    the_one y (k, within, is) = go k within is
      where
        go : (j : ℕ) → j < 1 → get_or (p ∷ []) j y ≡ y → y ≡ p
        go zero below e = sym e
        go (suc j) below e = absurd (omega (arith, below))
