-- The invariant once the packages are known that become installable with one more.
use Rattle.std.proofs.Common.{◌≡◌, ◌≢◌, ◌+◌, ◌<◌, ◌≤◌, ◌⊎◌, ◌^◌, ℕ, suc, Bool, true, false, not, cond, List, [], ◌∷◌, All, Contains, get_or, length, set, sum_by, refl, sym, ap, ◌∙◌, inl, inr, arith}
use Rattle.std.proofs.lemmas.Bool.{both_ways, cases_Bool, cases_eq, cases_lt, true≢false}
use Rattle.std.proofs.lemmas.List.{get_or-set_other, get_or-set_same}
use Rattle.std.proofs.lemmas.List.Elements.{All-contains}
use Rattle.std.proofs.lemmas.List.Sums.{count_by-le-length, sum_by-cons, sum_by-le-sum_by}
use Rattle.listing.specs.Tree.{run_at}
use Rattle.engine.specs.Division.{Division}
use Rattle.engine.proofs.Dependents.{run_listed}
use Rattle.graph.specs.Lists.{list_at, one_if, times}
use Rattle.graph.specs.Marks.{has_mark}
use Rattle.graph.specs.Walked.{Walked}
use Rattle.graph.proofs.Lists.{contained-times, times-contained}
use Rattle.graph.proofs.Turned.{AreTurned, turned, turned_back}
use Rattle.graph.proofs.Walks.{found-marked, marked-found}
use Rattle.engine.specs.Letters.{IsInstallable}
use Rattle.engine.specs.declared.Letter.{Letter}
use Rattle.engine.specs.declared.Letter.TheVariants.{T, Q, B, I, Ignored}
use Rattle.engine.specs.shared.Keeping.{AreKept, holds}
use Rattle.engine.specs.inside.Queueing.{waited_for}
use Rattle.engine.specs.inside.Searching.{IsSettled, told}
use Rattle.engine.specs.shared.Shown.{is_held, is_installed, letter_at}
use Rattle.engine.proofs.Beginning.{not_held_installed}
use Rattle.engine.proofs.Reading.{letter_within, none_waited}
use Rattle.engine.proofs.Sifting.{All-from_contains, one_if-most}
use Rattle.engine.proofs.Told.{counted, counted-le, told-counted}
use Rattle.engine.proofs.Waiting.{waited_for-same}

held_cases : (l : Letter) → is_held l ≡ true → (l ≡ B) ⊎ (l ≡ I)
held_cases T e = absurd (true≢false (sym e))
held_cases Q e = absurd (true≢false (sym e))
held_cases B e = inl refl
held_cases I e = inr refl
held_cases Ignored e = absurd (true≢false (sym e))

installed_or_not : (l : Letter) → (l ≡ I) ⊎ (is_installed l ≡ false)
installed_or_not T = inr refl
installed_or_not Q = inr refl
installed_or_not B = inr refl
installed_or_not I = inl refl
installed_or_not Ignored = inr refl

-- if one sum is greater, so is one of its terms
some_more : (f g : ℕ → ℕ) (ps : List ℕ) → sum_by f ps < sum_by g ps → (x : ℕ) × Contains ps x × (f x < g x)
some_more f g [] less = absurd (omega (arith, less))
some_more f g (p ∷ ps) less = elim (cases_lt (f p) (g p)) [
  | inl here ↦ (p, (0, omega arith, refl), here)
  | inr not_here ↦
      let rest = some_more f g ps (omega (arith, less, not_here, sum_by-cons f p ps, sum_by-cons g p ps)) in
      (rest.0, (suc rest.1.0, omega (arith, rest.1.1), rest.1.2), rest.2)
]

-- if terms add up, so do the sums
summed : (f g h k : ℕ → ℕ) (ps : List ℕ) → ((x : ℕ) → f x + g x ≡ h x + k x) → sum_by f ps + sum_by g ps ≡ sum_by h ps + sum_by k ps
summed f g h k [] each = refl
summed f g h k (p ∷ ps) each = omega (arith, each p, summed f g h k ps each, sum_by-cons f p ps, sum_by-cons g p ps, sum_by-cons h p ps, sum_by-cons k p ps)

module _ {d : Division} {letters : List Letter} {lacks waits : List ℕ} {runs needs : List (List ℕ)} {search : Walked} (kept : AreKept d letters lacks waits runs needs search)
    (p : ℕ) (within : p < length d.tree) (not_held : holds letters p ≡ false) where
  -- the letters with the package built
  abbrev pub with_built : List Letter
  with_built = set letters p B

  inside : p < length letters
  inside = omega (arith, within, kept.queueing.are_fitting.each_letter)

  pub built_here : letter_at with_built p ≡ B
  built_here = get_or-set_same letters p B Ignored inside

  pub as_before : (q : ℕ) → q ≢ p → letter_at with_built q ≡ letter_at letters q
  as_before q other = get_or-set_other letters p q B Ignored other

  there : AreTurned (run_at d.tree) (list_at runs)
  there = turned kept.runs_turned (run_listed d.tree kept.queueing.are_fitting.division.tree)

  back : AreTurned (list_at runs) (run_at d.tree)
  back = turned_back kept.runs_turned

  not_installed_before : (q : ℕ) → letter_at with_built q ≡ B → is_installed (letter_at letters q) ≡ false
  not_installed_before q built = elim (cases_eq q p) [
    | inl same ↦ ap (λ x. is_installed (letter_at letters x)) same ∙ not_held_installed (letter_at letters p) not_held
    | inr other ↦ ap is_installed (sym (as_before q other) ∙ built)
  ]

  pub waited_same : (ps : List ℕ) → waited_for with_built ps ≡ waited_for letters ps
  waited_same ps = waited_for-same letters with_built ps (λ q. elim (cases_eq q p) [
    | inl same ↦ ap (λ x. is_installed (letter_at with_built x)) same ∙ ap is_installed built_here
        ∙ sym (ap (λ x. is_installed (letter_at letters x)) same ∙ not_held_installed (letter_at letters p) not_held)
    | inr other ↦ ap is_installed (as_before q other)
  ])

  built_within : (q : ℕ) → letter_at with_built q ≡ B → q < length d.tree
  built_within q built = elim (cases_eq q p) [
    | inl same ↦ omega (arith, within, same)
    | inr other ↦ omega (
      arith,
      letter_within letters q (λ ignored. let e : B ≡ Ignored = sym (sym (as_before q other) ∙ built) ∙ ignored in cc),
      kept.queueing.are_fitting.each_letter,
    )
  ]

  pub lacks_few : (q : ℕ) → q < length lacks → get_or lacks q 0 < 2 ^ 64
  lacks_few q listed = omega (
    arith,
    kept.are_lacks q (omega (arith, listed, kept.each)),
    count_by-le-length (λ x. not (is_installed (letter_at letters x))) (run_at d.tree q),
    kept.few q (omega (arith, listed, kept.each)),
  )

  -- each package lacks at least as many as the number of times that the lists of built ones contain
  -- it
  pub some_told : (q : ℕ) (xs : List ℕ) → q < length d.tree → ((x : ℕ) → times x xs ≤ 1) → ((x : ℕ) → Contains xs x → letter_at with_built x ≡ B)
      → told runs q xs ≤ get_or lacks q 0
  some_told q xs listed once built = omega (
    arith,
    told-counted kept.runs_turned q listed xs (All-from_contains (λ x. x < length d.tree) xs (λ x there. built_within x (built x there))),
    sum_by-le-sum_by (λ x. times x xs) (λ x. one_if (not (is_installed (letter_at letters x)))) (run_at d.tree q) fewer,
    kept.are_lacks q listed,
  )
    where
      fewer : (x : ℕ) → times x xs ≤ one_if (not (is_installed (letter_at letters x)))
      fewer x = elim (cases_lt 0 (times x xs)) [
        | inl some ↦ let one : one_if (not (is_installed (letter_at letters x))) ≡ 1 =
            ap (λ b. one_if (not b)) (not_installed_before x (built x (contained-times x xs some))) in omega (arith, one, once x)
        | inr none ↦ omega (arith, none)
      ]

  module _ {less found : List ℕ} (settled : IsSettled with_built lacks less runs p found) (now : List Letter)
      (held : (q : ℕ) → is_held (letter_at now q) ≡ is_held (letter_at with_built q))
      (built : (q : ℕ) → letter_at now q ≡ B → letter_at with_built q ≡ B)
      (installed : (q : ℕ) → letter_at now q ≡ I → (letter_at with_built q ≡ I) ⊎ (Contains found q × (get_or less q 0 ≡ 0)))
      (all : All (λ q. letter_at now q ≡ B → 0 < get_or less q 0) found) where
    mark : ℕ → Bool
    mark q = has_mark settled.marks q

    once : (q : ℕ) → times q found ≡ one_if (has_mark settled.marks q)
    once = settled.gathered.are_found.once

    parted : (q : ℕ) → one_if (has_mark settled.left q) + times q settled.dropped ≡ one_if (has_mark settled.marks q)
    parted q = omega (arith, settled.sifted.parted.once q)

    found_there : (q : ℕ) → has_mark settled.marks q ≡ true → Contains found q
    found_there q marked = marked-found settled.gathered.are_found q marked

    found_inside : All (λ q. q < length d.tree) found
    found_inside = All-from_contains (λ q. q < length d.tree) found
        (λ q listed. built_within q (settled.gathered.built q (found-marked settled.gathered.are_found q listed)))

    dropped_fewer : (q : ℕ) → times q settled.dropped ≤ times q found
    dropped_fewer q = omega (arith, once q, parted q)

    dropped_inside : All (λ q. q < length d.tree) settled.dropped
    dropped_inside = All-from_contains (λ q. q < length d.tree) settled.dropped (λ q listed.
        All-contains (λ x. x < length d.tree) found q found_inside
        (contained-times q found (omega (arith, dropped_fewer q, times-contained q settled.dropped listed))))

    lacks_less : (q : ℕ) → q < length d.tree
        → get_or less q 0 + counted found (run_at d.tree q) ≡ get_or lacks q 0 + counted settled.dropped (run_at d.tree q)
    lacks_less q listed = omega (
      arith,
      settled.sifted.lacked q (omega (arith, listed, kept.each)),
      told-counted kept.runs_turned q listed found found_inside,
      told-counted kept.runs_turned q listed settled.dropped dropped_inside,
    )

    -- a marked one is held now
    held_now : (q : ℕ) → letter_at with_built q ≡ B → (letter_at now q ≡ B) ⊎ (letter_at now q ≡ I)
    held_now q is = held_cases (letter_at now q) (held q ∙ ap is_held is)

    is_left : (q : ℕ) → has_mark settled.marks q ≡ true → has_mark settled.left q ≡ true → letter_at now q ≡ I
    is_left q marked left = elim (held_now q (settled.gathered.built q marked)) [
      | inl b ↦ absurd (omega (arith, settled.sifted.rest q left, All-contains (λ x. letter_at now x ≡ B → 0 < get_or less x 0) found q all (found_there q marked) b))
      | inr i ↦ i
    ]

    is_dropped : (q : ℕ) → has_mark settled.marks q ≡ true → has_mark settled.left q ≡ false → Contains settled.dropped q
    is_dropped q marked gone = contained-times q settled.dropped (omega (arith, parted q, ap one_if marked, ap one_if gone))

    stays_built : (q : ℕ) → has_mark settled.marks q ≡ true → has_mark settled.left q ≡ false → is_installed (letter_at now q) ≡ false
    stays_built q marked gone = elim (installed_or_not (letter_at now q)) [
      | inr other ↦ other
      | inl i ↦ elim (installed q i) [
        | inl was ↦ absurd (let e : B ≡ I = sym (settled.gathered.built q marked) ∙ was in cc)
        | inr (listed, none) ↦ absurd (omega (arith, none, All-contains (λ x. 0 < get_or less x 0) settled.dropped q settled.sifted.some (is_dropped q marked gone)))
      ]
    ]

    unmarked_same : (q : ℕ) → has_mark settled.marks q ≡ false → is_installed (letter_at now q) ≡ is_installed (letter_at with_built q)
    unmarked_same q unmarked = elim (installed_or_not (letter_at now q)) [
      | inl i ↦ elim (installed q i) [
        | inl was ↦ ap is_installed i ∙ sym (ap is_installed was)
        | inr (listed, none) ↦ absurd (both_ways (has_mark settled.marks q) unmarked (found-marked settled.gathered.are_found q listed))
      ]
      | inr other ↦ elim (installed_or_not (letter_at with_built q)) [
        | inr before ↦ other ∙ sym before
        | inl i' ↦ elim (held_cases (letter_at now q) (held q ∙ ap is_held i')) [
          | inl b ↦ absurd (let e : B ≡ I = sym (built q b) ∙ i' in cc)
          | inr i ↦ ap is_installed i ∙ sym (ap is_installed i')
        ]
      ]
    ]

    each_part : (x : ℕ) → one_if (not (is_installed (letter_at with_built x))) + times x settled.dropped ≡ one_if (not (is_installed (letter_at now x))) + times x found
    each_part x = elim (cases_Bool (has_mark settled.marks x)) [
      | inr unmarked ↦
          let same : one_if (not (is_installed (letter_at now x))) ≡ one_if (not (is_installed (letter_at with_built x))) = ap (λ b. one_if (not b)) (unmarked_same x unmarked) in
          omega (arith, same, once x, parted x, ap one_if unmarked)
      | inl marked ↦
          let before : one_if (not (is_installed (letter_at with_built x))) ≡ 1 = ap (λ l. one_if (not (is_installed l))) (settled.gathered.built x marked) in
          elim (cases_Bool (has_mark settled.left x)) [
            | inl left ↦
                let after : one_if (not (is_installed (letter_at now x))) ≡ 0 = ap (λ l. one_if (not (is_installed l))) (is_left x marked left) in
                omega (arith, before, after, once x, parted x, ap one_if marked, ap one_if left)
            | inr gone ↦
                let after : one_if (not (is_installed (letter_at now x))) ≡ 1 = ap (λ b. one_if (not b)) (stays_built x marked gone) in
                omega (arith, before, after, once x, parted x, ap one_if marked, ap one_if gone)
          ]
    ]

    pub are_lacks_now : (q : ℕ) → q < length d.tree → get_or less q 0 ≡ waited_for now (run_at d.tree q)
    are_lacks_now q listed = omega (
      arith,
      lacks_less q listed,
      kept.are_lacks q listed,
      waited_same (run_at d.tree q),
      summed (λ x. one_if (not (is_installed (letter_at with_built x)))) (λ x. times x settled.dropped)
          (λ x. one_if (not (is_installed (letter_at now x)))) (λ x. times x found) (run_at d.tree q) each_part,
    )

    pub installed_lacks : (q : ℕ) → letter_at now q ≡ I → get_or less q 0 ≡ 0
    installed_lacks q i = elim (installed q i) [
      | inr (listed, none) ↦ none
      | inl was ↦
          let other : q ≢ p = λ same. let e : B ≡ I = sym (ap (letter_at with_built) same ∙ built_here) ∙ was in cc in
          let before : letter_at letters q ≡ I = sym (as_before q other) ∙ was in
          let listed : q < length d.tree = omega (arith, letter_within letters q (λ ignored. let e : I ≡ Ignored = sym before ∙ ignored in cc), kept.queueing.are_fitting.each_letter) in
          omega (arith, lacks_less q listed, kept.installed q before, counted-le settled.dropped found (run_at d.tree q) dropped_fewer)
    ]

    -- ---- no others are installable
    module _ (q : ℕ) (i : IsInstallable d.tree (holds now) q) where
      unmarked_other : (x : ℕ) → has_mark settled.marks x ≡ false → x ≢ p
      unmarked_other x unmarked same = both_ways (has_mark settled.marks x) unmarked (ap (has_mark settled.marks) same ∙ settled.gathered.itself)

      held_before : (x : ℕ) → i.among x ≡ true → has_mark settled.marks x ≡ false → holds letters x ≡ true
      held_before x member unmarked = ap is_held (sym (as_before x (unmarked_other x unmarked))) ∙ sym (held x) ∙ i.all_held x member

      -- those of the set that were not found
      abbrev outside : ℕ → Bool
      outside x = cond (has_mark settled.marks x) false (i.among x)

      outside_from : (x : ℕ) → has_mark settled.marks x ≡ false → i.among x ≡ true → outside x ≡ true
      outside_from x unmarked member = ap (λ b. cond b false (i.among x)) unmarked ∙ member

      outside_to : (x : ℕ) → outside x ≡ true → (has_mark settled.marks x ≡ false) × (i.among x ≡ true)
      outside_to x is = elim (cases_Bool (has_mark settled.marks x)) [
        | inl marked ↦ absurd (true≢false (sym is ∙ ap (λ b. cond b false (i.among x)) marked))
        | inr unmarked ↦ (unmarked, sym (ap (λ b. cond b false (i.among x)) unmarked) ∙ is)
      ]

      outside_closed : (x e : ℕ) → outside x ≡ true → Contains (run_at d.tree x) e → outside e ≡ true
      outside_closed x e is needed =
          let at = outside_to x is in
          let member = i.closed x e at.1 needed in
          elim (cases_Bool (has_mark settled.marks e)) [
            | inr unmarked ↦ outside_from e unmarked member
            | inl marked ↦ elim (held_cases (letter_at letters x) (held_before x at.1 at.0)) [
              | inl b ↦ absurd (both_ways (has_mark settled.marks x) at.0
                  (settled.gathered.closed e x marked (there x e needed) (as_before x (unmarked_other x at.0) ∙ b)))
              | inr was ↦
                  let listed : x < length d.tree = omega (arith, letter_within letters x (λ ignored. let f : I ≡ Ignored = sym was ∙ ignored in cc), kept.queueing.are_fitting.each_letter) in
                  let dep : letter_at letters e ≡ I = none_waited letters (run_at d.tree x) e (sym (kept.are_lacks x listed) ∙ kept.installed x was) needed in
                  absurd (true≢false (sym (ap is_installed dep) ∙ not_installed_before e (settled.gathered.built e marked)))
            ]
          ]

      free : (x : ℕ) → i.among x ≡ true → has_mark settled.marks x ≡ false → letter_at letters x ≡ I
      free x member unmarked = elim (held_cases (letter_at letters x) (held_before x member unmarked)) [
        | inr was ↦ was
        | inl b ↦ absurd (kept.built x b (record {
          among = outside;
          member = outside_from x unmarked member;
          all_held = λ y is. held_before y (outside_to y is).1 (outside_to y is).0;
          closed = outside_closed;
        }))
      ]

      -- the found ones that are not in the set
      abbrev out : ℕ → Bool
      out x = cond (has_mark settled.marks x) (not (i.among x)) false

      out_from : (x : ℕ) → has_mark settled.marks x ≡ true → i.among x ≡ false → out x ≡ true
      out_from x marked left_out = ap (λ b. cond b (not (i.among x)) false) marked ∙ ap not left_out

      out_to : (x : ℕ) → out x ≡ true → i.among x ≡ false
      out_to x is = elim (cases_Bool (has_mark settled.marks x)) [
        | inr unmarked ↦ absurd (true≢false (sym is ∙ ap (λ b. cond b (not (i.among x)) false) unmarked))
        | inl marked ↦ elim (cases_Bool (i.among x)) [
          | inr other ↦ other
          | inl member ↦ absurd (true≢false (sym is ∙ ap (λ b. cond b (not (i.among x)) false) marked ∙ ap not member))
        ]
      ]

      enough : (y : ℕ) → has_mark settled.marks y ≡ true → told runs y found < get_or lacks y 0 → out y ≡ true
      enough y marked lacking = elim (cases_Bool (i.among y)) [
        | inr left_out ↦ out_from y marked left_out
        | inl member ↦
            let listed = built_within y (settled.gathered.built y marked) in
            let one = some_more (λ x. times x found) (λ x. one_if (not (is_installed (letter_at letters x)))) (run_at d.tree y)
            (omega (arith, lacking, told-counted kept.runs_turned y listed found found_inside, kept.are_lacks y listed)) in
            let x = one.0 in
            let here : i.among x ≡ true = i.closed y x member one.1 in
            elim (cases_Bool (has_mark settled.marks x)) [
              | inl found_x ↦ absurd (omega (arith, one.2, once x, ap one_if found_x, one_if-most (not (is_installed (letter_at letters x)))))
              | inr unmarked ↦
                  let none : one_if (not (is_installed (letter_at letters x))) ≡ 0 = ap (λ l. one_if (not (is_installed l))) (free x here unmarked) in
                  absurd (omega (arith, one.2, none))
            ]
      ]

      out_closed : (x y : ℕ) → out x ≡ true → Contains (list_at runs x) y → has_mark settled.marks y ≡ true → out y ≡ true
      out_closed x y is listed marked = elim (cases_Bool (i.among y)) [
        | inr left_out ↦ out_from y marked left_out
        | inl member ↦ absurd (both_ways (i.among x) (out_to x is) (i.closed y x member (back x y listed)))
      ]

      pub no_more : letter_at now q ≡ B → ⊥
      no_more b = elim (cases_Bool (has_mark settled.marks q)) [
        | inr unmarked ↦ let e : I ≡ B = sym (free q i.member unmarked) ∙ sym (as_before q (unmarked_other q unmarked)) ∙ built q b in absurd (cc)
        | inl marked ↦ elim (cases_Bool (has_mark settled.left q)) [
          | inl left ↦ let e : I ≡ B = sym (is_left q marked left) ∙ b in absurd (cc)
          | inr gone ↦ both_ways (i.among q)
              (out_to q (All-contains (λ x. out x ≡ true) settled.dropped q (settled.sifted.caused out enough out_closed) (is_dropped q marked gone))) i.member
        ]
      ]
