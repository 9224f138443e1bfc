-- The effects when a package becomes installable.
use Rattle.std.proofs.Common.{◌≡◌, ◌≢◌, ◌+◌, ◌-◌, ◌<◌, ◌≤◌, ◌⊎◌, ℕ, zero, suc, Bool, not, cond, nat_eq, List, [], ◌∷◌, Some, All, Contains, count_by, drop, get_or, length, set, refl, sym, ap, ◌∙◌, subst, inl, inr, arith}
use borrow.Author.Count.{below_more}
use Rattle.std.proofs.lemmas.Bool.{cases_eq, eq-eqb, ne_eqb}
use Rattle.std.proofs.lemmas.List.{get_or-set_other, get_or-set_same, length-set}
use Rattle.std.proofs.lemmas.List.Elements.{All-contains, Contains-get_or}
use Rattle.std.proofs.lemmas.List.Sums.{sum_by-cons, sum_by-drop_more}
use Rattle.std.proofs.lemmas.List.Quantifiers.{position-Some}
use Rattle.engine.specs.Division.{Division, no_unit, number_of, unit_at}
use Rattle.engine.specs.Units.{Unit, is_in}
use Rattle.engine.proofs.Lists.{in_contains}
use Rattle.engine.specs.declared.Letter.{Letter}
use Rattle.engine.specs.declared.Letter.TheVariants.{T, Q, B, I, Ignored}
use Rattle.graph.specs.Lists.{one_if, times}
use Rattle.engine.specs.inside.Queueing.{AreFitting, AreQueued, AreQueueing, FitsUnit, needs_of, waited_for}
use Rattle.engine.specs.shared.Shown.{is_held, is_installed, letter_at}
use Rattle.engine.proofs.WellMade.{one_unit_has}

-- ---- letters

pub AreQueued-itself : (letters : List Letter) → AreQueued letters letters
AreQueued-itself letters = record { each = refl; same = λ p. inl refl }

pub AreQueued-through : (a b c : List Letter) → AreQueued a b → AreQueued b c → AreQueued a c
AreQueued-through a b c ab bc = record {
  each = bc.each ∙ ab.each;
  same = λ p. elim (bc.same p) [
    | inl e ↦ elim (ab.same p) [ inl f ↦ inl (e ∙ f) | inr (t, q) ↦ inr (t, e ∙ q) ]
    | inr (t', q') ↦ elim (ab.same p) [ inl f ↦ inr (sym f ∙ t', q') | inr (t, q) ↦ inr (t, q') ]
  ];
}

pub queued-installed : (a b : List Letter) → AreQueued a b → (p : ℕ) → is_installed (letter_at b p) ≡ is_installed (letter_at a p)
queued-installed a b queued p = elim (queued.same p) [
  | inl e ↦ ap is_installed e
  | inr (t, q) ↦ ap is_installed q ∙ sym (ap is_installed t)
]

-- ---- the number that is waited for

pub waited_for-same : (a b : List Letter) (ps : List ℕ) → ((p : ℕ) → is_installed (letter_at b p) ≡ is_installed (letter_at a p)) → waited_for b ps ≡ waited_for a ps
waited_for-same a b ps same =
    let one : (λ q. is_installed (letter_at b q)) ≡ (λ q. is_installed (letter_at a q)) = λ i q. same q i in
    ap (λ (test : ℕ → Bool). count_by (λ q. not (test q)) ps) one

pub waited_for-less : (letters : List Letter) (p : ℕ) (ps : List ℕ) → p < length letters → letter_at letters p ≡ B
    → waited_for (set letters p I) ps + times p ps ≡ waited_for letters ps
waited_for-less letters p [] within built = refl
waited_for-less letters p (q ∷ qs) within built =
    let one : ℕ → ℕ = λ x. cond (not (is_installed (letter_at (set letters p I) x))) 1 0 in
    let two : ℕ → ℕ = λ x. cond (not (is_installed (letter_at letters x))) 1 0 in
    let three : ℕ → ℕ = λ x. cond (nat_eq x p) 1 0 in
    let here : one q + three q ≡ two q = elim (cases_eq q p) [
      | inl same ↦
          let a : one q ≡ 0 = ap one same ∙ ap (λ l. one_if (not (is_installed l))) (get_or-set_same letters p I Ignored within) in
          let b : three q ≡ 1 = ap one_if (eq-eqb q p same) in
          let c : two q ≡ 1 = ap two same ∙ ap (λ l. one_if (not (is_installed l))) built in
          omega (arith, a, b, c)
      | inr other ↦
          let a : one q ≡ two q = ap (λ l. one_if (not (is_installed l))) (get_or-set_other letters p q I Ignored other) in
          let b : three q ≡ 0 = ap one_if (ne_eqb q p other) in
          omega (arith, a, b)
    ] in
    omega (arith, here, waited_for-less letters p qs within built, sum_by-cons one q qs, sum_by-cons two q qs, sum_by-cons three q qs)

-- ---- letters fit their units

-- a package is in the unit that has its number
pub package_there : (d : Division) (p u : ℕ) → number_of d p ≡ Some u → (u < length d.units) × Contains (unit_at d u).packages p
package_there d p u number =
    let at = position-Some (λ (x : Unit). is_in x.packages p) d.units u no_unit number in
    (at.0, in_contains (unit_at d u).packages p at.1)

module _ {d : Division} {letters : List Letter} {waits : List ℕ} (are : AreFitting d letters waits) where
  pub AreFitting-installed : (p : ℕ) → p < length letters → letter_at letters p ≡ B → AreFitting d (set letters p I) waits
  AreFitting-installed p within built = record {
    division = are.division;
    each_letter = length-set letters p I ∙ are.each_letter;
    each_unit = are.each_unit;
    fit = λ q listed. elim (cases_eq q p) [
      | inl same ↦
          let old : FitsUnit d waits q I = subst (FitsUnit d waits q) (ap (letter_at letters) same ∙ built) (are.fit q listed) in
          subst (FitsUnit d waits q) (sym (ap (letter_at (set letters p I)) same ∙ get_or-set_same letters p I Ignored within)) old
      | inr other ↦ subst (FitsUnit d waits q) (sym (get_or-set_other letters p q I Ignored other)) (are.fit q listed)
    ];
  }

  module _ (u v : ℕ) (listed : u < length waits) (less : v + 1 ≡ get_or waits u 0) where
    here : (w : ℕ) → w ≡ u → get_or (set waits u v) w 0 ≡ v
    here w same = ap (λ x. get_or (set waits u v) x 0) same ∙ get_or-set_same waits u v 0 listed

    -- the unit still waits
    fits_waiting : 0 < v → (p : ℕ) (l : Letter) → FitsUnit d waits p l → FitsUnit d (set waits u v) p l
    fits_waiting more p T (w, is, some) = elim (cases_eq w u) [
      | inl same ↦ (w, is, omega (arith, more, here w same))
      | inr other ↦ (w, is, omega (arith, some, get_or-set_other waits u w v 0 other))
    ]
    fits_waiting more p Q (w, is, none) = elim (cases_eq w u) [
      | inl same ↦ absurd (omega (arith, none, less, ap (λ x. get_or waits x 0) same))
      | inr other ↦ (w, is, get_or-set_other waits u w v 0 other ∙ none)
    ]
    fits_waiting more p B fits = fits
    fits_waiting more p I fits = fits
    fits_waiting more p Ignored fits = fits

    pub AreFitting-waiting : 0 < v → AreFitting d letters (set waits u v)
    AreFitting-waiting more = record {
      division = are.division;
      each_letter = are.each_letter;
      each_unit = length-set waits u v ∙ are.each_unit;
      fit = λ p inside. fits_waiting more p (letter_at letters p) (are.fit p inside);
    }

    -- the unit waits for none, and its packages are queued
    module _ (now : List Letter) (none : v ≡ 0)
        (only : (p : ℕ) → (letter_at now p ≡ letter_at letters p) ⊎ (Contains (unit_at d u).packages p × (letter_at letters p ≡ T) × (letter_at now p ≡ Q)))
        (all : All (λ p. letter_at now p ≢ T) (unit_at d u).packages) where
      fits_queued : (p : ℕ) (l : Letter) → letter_at letters p ≡ l → FitsUnit d waits p l → FitsUnit d (set waits u v) p (letter_at now p)
      fits_queued p T is (w, number, some) = elim (cases_eq w u) [
        | inl same ↦ elim (only p) [
          | inl e ↦ absurd (All-contains (λ q. letter_at now q ≢ T) (unit_at d u).packages p all
              (subst (λ (x : ℕ). Contains (unit_at d x).packages p) same (package_there d p w number).1) (e ∙ is))
          | inr (contained, was, queued) ↦ let q : FitsUnit d (set waits u v) p Q = (w, number, here w same ∙ none) in
              subst (FitsUnit d (set waits u v) p) (sym queued) q
        ]
        | inr other ↦ elim (only p) [
          | inl e ↦ let t : FitsUnit d (set waits u v) p T = (w, number, omega (arith, some, get_or-set_other waits u w v 0 other)) in
              subst (FitsUnit d (set waits u v) p) (sym (e ∙ is)) t
          | inr (contained, was, queued) ↦
              let same = (one_unit_has d u p are.division (omega (arith, listed, are.each_unit)) contained).0 in
              let e : Some w ≡ Some u = sym number ∙ same in
              absurd (other (cc))
        ]
      ]
      fits_queued p Q is (w, number, zero_left) = elim (only p) [
        | inl e ↦ elim (cases_eq w u) [
          | inl same ↦ absurd (omega (arith, zero_left, less, ap (λ x. get_or waits x 0) same))
          | inr other ↦ let q : FitsUnit d (set waits u v) p Q = (w, number, get_or-set_other waits u w v 0 other ∙ zero_left) in
              subst (FitsUnit d (set waits u v) p) (sym (e ∙ is)) q
        ]
        | inr (contained, was, queued) ↦ absurd (let e : Q ≡ T = sym is ∙ was in cc)
      ]
      fits_queued p B is fits = elim (only p) [
        | inl e ↦ let b : FitsUnit d (set waits u v) p B = fits in subst (FitsUnit d (set waits u v) p) (sym (e ∙ is)) b
        | inr (contained, was, queued) ↦ absurd (let e : B ≡ T = sym is ∙ was in cc)
      ]
      fits_queued p I is fits = elim (only p) [
        | inl e ↦ let i : FitsUnit d (set waits u v) p I = fits in subst (FitsUnit d (set waits u v) p) (sym (e ∙ is)) i
        | inr (contained, was, queued) ↦ absurd (let e : I ≡ T = sym is ∙ was in cc)
      ]
      fits_queued p Ignored is fits = elim (only p) [
        | inl e ↦ let g : FitsUnit d (set waits u v) p Ignored = fits in subst (FitsUnit d (set waits u v) p) (sym (e ∙ is)) g
        | inr (contained, was, queued) ↦ absurd (let e : Ignored ≡ T = sym is ∙ was in cc)
      ]

      pub AreFitting-queued : length now ≡ length letters → AreFitting d now (set waits u v)
      AreFitting-queued each = record {
        division = are.division;
        each_letter = each ∙ are.each_letter;
        each_unit = length-set waits u v ∙ are.each_unit;
        fit = λ p inside. fits_queued p (letter_at letters p) refl (are.fit p inside);
      }

-- ---- a package becomes installable

-- the invariant after the units of the first n that need it wait for one less
pub record IsInstalling (d : Division) (before letters : List Letter) (waits needing : List ℕ) (n : ℕ) : Type 0 where
  pub fitting : AreFitting d letters waits
  pub waited : (u : ℕ) → u < length d.units → get_or waits u 0 ≡ waited_for letters (needs_of d u) + times u (drop n needing)
  pub queued : AreQueued before letters

pub IsInstalling-start : (d : Division) (letters : List Letter) (waits needing : List ℕ) (p : ℕ) → AreQueueing d letters waits → p < length letters → letter_at letters p ≡ B
    → ((u : ℕ) → u < length d.units → times u needing ≡ times p (needs_of d u)) → IsInstalling d (set letters p I) (set letters p I) waits needing 0
IsInstalling-start d letters waits needing p are within built needed = record {
  fitting = AreFitting-installed are.are_fitting p within built;
  waited = λ u listed. omega (arith, are.waited u listed, waited_for-less letters p (needs_of d u) within built, needed u listed);
  queued = AreQueued-itself (set letters p I);
}

module _ {d : Division} {before letters : List Letter} {waits needing : List ℕ} {n : ℕ} (now : IsInstalling d before letters waits needing n) where
  -- the next unit waits for something
  pub next_waits : n < length needing → (u : ℕ) → u ≡ get_or needing n 0 → u < length d.units → 0 < get_or waits u 0
  next_waits inside u is listed =
      let one : one_if (nat_eq (get_or needing n 0) u) ≡ 1 = ap one_if (eq-eqb (get_or needing n 0) u (sym is)) in
      omega (arith, one, now.waited u listed, sum_by-drop_more (λ x. cond (nat_eq x u) 1 0) needing n 0 inside)

  pub IsInstalling-more : (more : List Letter) (less : List ℕ) → n < length needing → get_or needing n 0 < length d.units → AreFitting d more less
      → less ≡ set waits (get_or needing n 0) (get_or waits (get_or needing n 0) 0 - 1) → AreQueued letters more
      → IsInstalling d before more less needing (n + 1)
  IsInstalling-more more less inside listed fitting is queued = record {
    fitting = fitting;
    waited = λ u within. elim (cases_eq u (get_or needing n 0)) [
      | inl same ↦
          let one : one_if (nat_eq (get_or needing n 0) u) ≡ 1 = ap one_if (eq-eqb (get_or needing n 0) u (sym same)) in
          let here : get_or less u 0 ≡ get_or waits u 0 - 1 = ap (λ ws. get_or ws u 0) is ∙ ap (λ x. get_or (set waits (get_or needing n 0) (get_or waits (get_or needing n 0) 0 - 1)) x 0) same
          ∙ get_or-set_same waits (get_or needing n 0) _ 0 (omega (arith, listed, now.fitting.each_unit)) ∙ ap (λ x. get_or waits x 0 - 1) (sym same) in
          omega (arith, one, here, now.waited u within, waited_for-same letters more (needs_of d u) (queued-installed letters more queued), sum_by-drop_more (λ x. cond (nat_eq x u) 1 0) needing n 0 inside)
      | inr other ↦
          let none : one_if (nat_eq (get_or needing n 0) u) ≡ 0 = ap one_if (ne_eqb (get_or needing n 0) u (λ e. other (sym e))) in
          let there : get_or less u 0 ≡ get_or waits u 0 = ap (λ ws. get_or ws u 0) is ∙ get_or-set_other waits (get_or needing n 0) u _ 0 other in
          omega (arith, none, there, now.waited u within, waited_for-same letters more (needs_of d u) (queued-installed letters more queued), sum_by-drop_more (λ x. cond (nat_eq x u) 1 0) needing n 0 inside)
    ];
    queued = AreQueued-through before letters more now.queued queued;
  }

  pub IsInstalling-end : length needing ≤ n → AreQueueing d letters waits
  IsInstalling-end done = record {
    are_fitting = now.fitting;
    waited = λ u within. now.waited u within ∙ (let none : times u (drop n needing) ≡ 0 = ap (times u) (drop-past needing n done) in omega (arith, none));
  }
    where
      drop-past : (xs : List ℕ) (k : ℕ) → length xs ≤ k → drop k xs ≡ []
      drop-past [] zero past = refl
      drop-past [] (suc k) past = refl
      drop-past (x ∷ xs) zero past = absurd (omega arith)
      drop-past (x ∷ xs) (suc k) past = drop-past xs k (omega arith)

-- ---- packages that lack nothing become installable

-- the letter of the package that becomes installable, and those of others
pub letter_after : (letters now : List Letter) (p : ℕ) → p < length letters → letter_at letters p ≡ B → AreQueued (set letters p I) now → (q : ℕ)
    → ((q ≡ p) × (letter_at now q ≡ I) × (letter_at letters q ≡ B)) ⊎ ((q ≢ p) × ((letter_at now q ≡ letter_at letters q) ⊎ ((letter_at letters q ≡ T) × (letter_at now q ≡ Q))))
letter_after letters now p within built queued q = elim (cases_eq q p) [
  | inl same ↦
      let was : letter_at (set letters p I) q ≡ I = ap (letter_at (set letters p I)) same ∙ get_or-set_same letters p I Ignored within in
      elim (queued.same q) [
        | inl e ↦ inl (same, e ∙ was, ap (letter_at letters) same ∙ built)
        | inr (t, changed) ↦ absurd (let e : I ≡ T = sym was ∙ t in cc)
      ]
  | inr other ↦
      let was : letter_at (set letters p I) q ≡ letter_at letters q = get_or-set_other letters p q I Ignored other in
      elim (queued.same q) [
        | inl e ↦ inr (other, inl (e ∙ was))
        | inr (t, changed) ↦ inr (other, inr (sym was ∙ t, changed))
      ]
]

-- the invariant after n of the found ones were examined
pub record IsInstallingAll (d : Division) (before letters : List Letter) (waits lacks found : List ℕ) (n : ℕ) : Type 0 where
  pub queueing : AreQueueing d letters waits
  pub each : length letters ≡ length before
  pub held : (p : ℕ) → is_held (letter_at letters p) ≡ is_held (letter_at before p)
  pub built : (p : ℕ) → letter_at letters p ≡ B → letter_at before p ≡ B
  pub installed : (p : ℕ) → letter_at letters p ≡ I → (letter_at before p ≡ I) ⊎ (Contains found p × (get_or lacks p 0 ≡ 0))
  pub all : (k : ℕ) → k < n → letter_at letters (get_or found k 0) ≡ B → 0 < get_or lacks (get_or found k 0) 0

module _ {d : Division} {before letters : List Letter} {waits lacks found : List ℕ} {n : ℕ} (now : IsInstallingAll d before letters waits lacks found n) where
  pub IsInstallingAll-keeps : (letter_at letters (get_or found n 0) ≡ B → 0 < get_or lacks (get_or found n 0) 0) → IsInstallingAll d before letters waits lacks found (n + 1)
  IsInstallingAll-keeps here = record {
    queueing = now.queueing;
    each = now.each;
    held = now.held;
    built = now.built;
    installed = now.installed;
    all = below_more (λ k. letter_at letters (get_or found k 0) ≡ B → 0 < get_or lacks (get_or found k 0) 0) n now.all here;
  }

  pub IsInstallingAll-more : (more : List Letter) (less : List ℕ) → n < length found → get_or found n 0 < length letters → letter_at letters (get_or found n 0) ≡ B → get_or lacks (get_or found n 0) 0 ≡ 0
      → AreQueueing d more less → AreQueued (set letters (get_or found n 0) I) more → IsInstallingAll d before more less lacks found (n + 1)
  IsInstallingAll-more more less listed within was nothing queueing queued = record {
    queueing = queueing;
    each = queued.each ∙ length-set letters (get_or found n 0) I ∙ now.each;
    held = λ p. elim (after p) [
      | inl (same, i, b) ↦ ap is_held i ∙ sym (ap is_held b) ∙ now.held p
      | inr (other, inl e) ↦ ap is_held e ∙ now.held p
      | inr (other, inr (t, q)) ↦ ap is_held q ∙ sym (ap is_held t) ∙ now.held p
    ];
    built = λ p is. elim (after p) [
      | inl (same, i, b) ↦ absurd (let e : I ≡ B = sym i ∙ is in cc)
      | inr (other, inl e) ↦ now.built p (sym e ∙ is)
      | inr (other, inr (t, q)) ↦ absurd (let e : Q ≡ B = sym q ∙ is in cc)
    ];
    installed = λ p is. elim (after p) [
      | inl (same, i, b) ↦ inr (subst (Contains found) (sym same) (Contains-get_or found n 0 listed), ap (λ x. get_or lacks x 0) same ∙ nothing)
      | inr (other, inl e) ↦ now.installed p (sym e ∙ is)
      | inr (other, inr (t, q)) ↦ absurd (let e : Q ≡ I = sym q ∙ is in cc)
    ];
    all = below_more (λ k. letter_at more (get_or found k 0) ≡ B → 0 < get_or lacks (get_or found k 0) 0) n (λ k below is. elim (after (get_or found k 0)) [
      | inl (same, i, b) ↦ absurd (let e : I ≡ B = sym i ∙ is in cc)
      | inr (other, inl e) ↦ now.all k below (sym e ∙ is)
      | inr (other, inr (t, q)) ↦ absurd (let e : Q ≡ B = sym q ∙ is in cc)
    ]) (λ is. elim (after (get_or found n 0)) [
      | inl (same, i, b) ↦ absurd (let e : I ≡ B = sym i ∙ is in cc)
      | inr (other, changed) ↦ absurd (other refl)
    ]);
  }
    where
      after : (q : ℕ) → ((q ≡ get_or found n 0) × (letter_at more q ≡ I) × (letter_at letters q ≡ B)) ⊎ ((q ≢ get_or found n 0) × ((letter_at more q ≡ letter_at letters q) ⊎ ((letter_at letters q ≡ T) × (letter_at more q ≡ Q))))
      after = letter_after letters more (get_or found n 0) within was queued
