-- Whether a package is installable is decidable. The greatest set of held packages that contains
-- all run dependencies of its members is found by removing, one after another, members that lack
-- one.
use Rattle.std.proofs.Common.{◌≡◌, ◌≢◌, ◌&&◌, ◌==◌, ◌<◌, ◌⊎◌, ℕ, zero, suc, Bool, true, false, not, List, [], ◌∷◌, All, Any, Contains, length, refl, sym, ap, ◌∙◌, subst, inl, inr, arith}
use Rattle.std.proofs.lemmas.Bool.{and_from, and_parts, cases_Bool, cases_eq, cases_lt, eq-eqb, ne_eqb, true≢false}
use Rattle.std.proofs.lemmas.List.{get_or_past}
use Rattle.std.proofs.lemmas.List.Elements.{All-cons, All-contains}
use Rattle.listing.specs.Tree.{Package, Tree, no_package, run_at}
use Rattle.engine.specs.Letters.{IsInstallable}
use Rattle.engine.specs.inside.Lacking.{AreSoMany}
use Rattle.engine.proofs.SoMany.{so_many-less, so_many-some}

-- ---- one of two conditions at each position

module _ (P N : ℕ → Type 0) (each : (d : ℕ) → P d ⊎ N d) where
  -- either all elements satisfy the one condition, or some element satisfies the other
  pub all_or_any : (xs : List ℕ) → All P xs ⊎ Any N xs
  all_or_any [] = inl (λ k d inside. absurd (omega arith))
  all_or_any (x ∷ xs) = elim (each x) [
    | inr other ↦ inr (0, x, omega arith, refl, other)
    | inl one ↦ elim (all_or_any xs) [
      | inl rest ↦ inl (All-cons P x xs one rest)
      | inr (k, y, inside, at, other) ↦ inr (suc k, y, omega (arith, inside), at, other)
    ]
  ]

  -- the same for the positions below n
  all_or_some : (n : ℕ) → ((q : ℕ) → q < n → P q) ⊎ ((q : ℕ) × (q < n) × N q)
  all_or_some zero = inl (λ q below. absurd (omega arith))
  all_or_some (suc n) = elim (each n) [
    | inr other ↦ inr (n, omega arith, other)
    | inl one ↦ elim (all_or_some n) [
      | inr (q, below, other) ↦ inr (q, omega (arith, below), other)
      | inl rest ↦ inl (λ q below. elim (cases_eq q n) [
        | inl same ↦ subst P (sym same) one
        | inr before ↦ rest q (omega (arith, below, before))
      ])
    ]
  ]

-- some number of the positions below n pass the test
so_many_pass : (S : ℕ → Bool) (n : ℕ) → (m : ℕ) × AreSoMany (λ q. S q ≡ true) n m
so_many_pass S zero = (0, refl)
so_many_pass S (suc n) = elim (cases_Bool (S n)) [
  | inl passes ↦ let rest = so_many_pass S n in (suc rest.0, inl (passes, (rest.0, rest.1, refl)))
  | inr fails ↦ let rest = so_many_pass S n in
      (rest.0, inr (λ passes. true≢false (sym passes ∙ fails), rest.1))
]

-- ---- the greatest closed set

-- the lists of members contain only members
abbrev IsClosed : (ℕ → List ℕ) → (ℕ → Bool) → Type 0
IsClosed next S = (q d : ℕ) → S q ≡ true → Contains (next q) d → S d ≡ true

-- R is the greatest closed subset of S
record IsGreatest (next : ℕ → List ℕ) (S R : ℕ → Bool) : Type 0 where
  within : (q : ℕ) → R q ≡ true → S q ≡ true
  closed : IsClosed next R
  greatest : (among : ℕ → Bool) → ((q : ℕ) → among q ≡ true → S q ≡ true)
      → IsClosed next among → (q : ℕ) → among q ≡ true → R q ≡ true

-- the set without one element
abbrev without : ℕ → (ℕ → Bool) → ℕ → Bool
without p S q = not (q == p) && S q

without-less : (p : ℕ) (S : ℕ → Bool) (q : ℕ) → without p S q ≡ true → S q ≡ true
without-less p S q is = (and_parts (not (q == p)) (S q) is).1

without-other : (p : ℕ) (S : ℕ → Bool) (q : ℕ) → q ≢ p → S q ≡ true
    → without p S q ≡ true
without-other p S q other is = and_from (not (q == p)) (S q) (ap not (ne_eqb q p other)) is

without-itself : (p : ℕ) (S : ℕ → Bool) → without p S p ≡ true → ⊥
without-itself p S is =
    true≢false (sym (and_parts (not (p == p)) (S p) is).0 ∙ ap not (eq-eqb p p refl))

-- only positions below n have lists that aren't empty
module _ (next : ℕ → List ℕ) (n : ℕ) (listed : (q d : ℕ) → Contains (next q) d → q < n) where
  -- a member whose list has only members, or one whose list has something else
  abbrev IsMet : (ℕ → Bool) → ℕ → Type 0
  IsMet S q = S q ≡ true → All (λ d. S d ≡ true) (next q)

  abbrev IsUnmet : (ℕ → Bool) → ℕ → Type 0
  IsUnmet S q = (S q ≡ true) × Any (λ d. S d ≡ false) (next q)

  met_or_not : (S : ℕ → Bool) (q : ℕ) → IsMet S q ⊎ IsUnmet S q
  met_or_not S q = elim (cases_Bool (S q)) [
    | inr out ↦ inl (λ member. absurd (true≢false (sym member ∙ out)))
    | inl member ↦ elim (all_or_any (λ d. S d ≡ true) (λ d. S d ≡ false)
        (λ d. cases_Bool (S d)) (next q)) [
          | inl all ↦ inl (λ is. all)
          | inr one ↦ inr (member, one)
        ]
  ]

  record Unmet (S : ℕ → Bool) : Type 0 where
    at : ℕ
    below : at < n
    member : S at ≡ true
    needed : ℕ
    named : Contains (next at) needed
    out : S needed ≡ false

  -- a set is closed, or has a member of the second kind
  closed_or_not : (S : ℕ → Bool) → IsGreatest next S S ⊎ Unmet S
  closed_or_not S = elim (all_or_some (IsMet S) (IsUnmet S) (met_or_not S) n) [
    | inl all ↦ inl (record {
      within = λ q is. is;
      closed = λ q d is named.
          All-contains (λ d. S d ≡ true) (next q) d (all q (listed q d named) is) named;
      greatest = λ among inside closed q is. inside q is;
    })
    | inr (q, below, (member, (k, d, inside, is, out))) ↦ inr (record {
      at = q;
      below = below;
      member = member;
      needed = d;
      named = (k, inside, is);
      out = out;
    })
  ]

  -- removing such a member doesn't change the greatest closed subset
  greatest-without : (S R : ℕ → Bool) (u : Unmet S) → IsGreatest next (without u.at S) R
      → IsGreatest next S R
  greatest-without S R u g = record {
    within = λ q is. without-less u.at S q (g.within q is);
    closed = g.closed;
    greatest = λ among inside closed. g.greatest among
        (λ q is. without-other u.at S q (other among inside closed q is) (inside q is)) closed;
  }
    where
      other : (among : ℕ → Bool) → ((q : ℕ) → among q ≡ true → S q ≡ true)
          → IsClosed next among → (q : ℕ) → among q ≡ true → q ≢ u.at
      other among inside closed q is same =
          let there : among u.at ≡ true = subst (λ x. among x ≡ true) same is in
          true≢false (sym (inside u.needed (closed u.at u.needed there u.named)) ∙ u.out)

  -- each set has a greatest closed subset: such members are removed until there are none
  greatest_within : (m : ℕ) (S : ℕ → Bool) → AreSoMany (λ q. S q ≡ true) n m
      → (R : ℕ → Bool) × IsGreatest next S R
  greatest_within zero S are = elim (closed_or_not S) [
    | inl greatest ↦ (S, greatest)
    | inr u ↦
        absurd (omega (arith, so_many-some (λ q. S q ≡ true) n zero u.at are u.below u.member))
  ]
  greatest_within (suc m) S are = elim (closed_or_not S) [
    | inl greatest ↦ (S, greatest)
    | inr u ↦
        let fewer = so_many-less (λ q. S q ≡ true) (λ q. without u.at S q ≡ true) n m u.at
        u.below u.member (without-itself u.at S) (λ q below. without-other u.at S q)
        (λ q below. without-less u.at S q) are in
        let rest = greatest_within m (without u.at S) fewer in
        (rest.0, greatest-without S rest.0 u rest.1)
  ]

-- ---- packages

-- positions out of range have no run dependencies
run_listed : (tree : Tree) (q d : ℕ) → Contains (run_at tree q) d → q < length tree
run_listed tree q d named = elim (cases_lt q (length tree)) [
  | inl below ↦ below
  | inr past ↦
      let none : run_at tree q ≡ [] =
      ap (λ (x : Package). x.run) (get_or_past tree q no_package past) in
      absurd (omega (arith, named.1, ap length none))
]

-- a package is installable, or it is not
pub installable_or_not : (tree : Tree) (held : ℕ → Bool) (p : ℕ) → IsInstallable tree held p
    ⊎ ¬ IsInstallable tree held p
installable_or_not tree held p = elim (cases_Bool (found.0 p)) [
  | inl is ↦ inl (record {
    among = found.0;
    member = is;
    all_held = found.1.within;
    closed = found.1.closed;
  })
  | inr is_not ↦ inr (λ can. true≢false
      (sym (found.1.greatest can.among can.all_held can.closed p can.member) ∙ is_not))
]
  where
    found : (R : ℕ → Bool) × IsGreatest (run_at tree) held R
    found =
        let held_below = so_many_pass held (length tree) in
        greatest_within (run_at tree) (length tree) (run_listed tree) held_below.0 held held_below.1
