-- The engine after one more fact is known.
use Rattle.std.proofs.Common.{◌≡◌, ◌==◌, ◌<◌, ◌&&◌, ◌||◌, ℕ, Bool, true, false, List, [], ◌∷◌}
use Rattle.std.proofs.Common.{Option, Some, None, eqb-true, filter, inl, inr, length, nat_eq, refl}
use Rattle.std.proofs.Common.{sym, ap, ◌∙◌}
use Rattle.std.specs.Prelude.{is_some, unwrap_or}
use Rattle.std.specs.FinSet as finset
use Rattle.std.specs.FinSet.{contains-from_list_nat, nat_cmp-IsAntisymmetric}
use Rattle.std.specs.Cmp.{nat_cmp_total, unsigned_tied}
use Rattle.std.specs.List.{slice_index_or}
use Rattle.std.specs.Ordering.{nat_cmp}
use Rattle.std.proofs.lemmas.Bool.{cases_eq, eq-eqb, true≢false}
use Rattle.std.proofs.lemmas.List.{get_or-set_other, get_or-set_same}
use Rattle.std.proofs.lemmas.List.Quantifiers.{position-Some}
use Rattle.claims.specs.Member.{Facts, first, no_facts, noted}
use Rattle.ballots.specs.InTheAgreement.{note_of}
use Rattle.ballots.specs.declared.message.Fact.{Fact}
use Rattle.ballots.specs.declared.message.Fact.TheVariants.{Opened, Promised, Voted, Held}
use Rattle.ballots.specs.declared.message.Note.{Note}
use Rattle.engine.specs.Division.{Division, IsDivision, no_unit, number_of, unit_at}
use Rattle.engine.specs.Units.{is_in, positions}
use Rattle.engine.proofs.Lists.{below_in, in_contains, in_kept, not_true, same_answers}
use Rattle.engine.proofs.Kept.{unit_listed}
use Rattle.engine.proofs.WellMade.{one_unit_has}
use Rattle.protocol.specs.State.{State, Value, holds_package, is_held_any, noted_at}
use Rattle.member.specs.shared.Fields.{engine_with}
use Rattle.member.specs.inside.Units.{agreed_too, is_held_fact, with_all}

-- the set with these has them, and its previous elements
has_all : (s : finset.FinSet nat_cmp) (ps : List ℕ) (q : ℕ)
    → finset.contains (with_all s ps) q ≡ (is_in ps q || finset.contains s q)
has_all s [] q = refl
has_all s (p ∷ ps) q =
    has_all (finset.insert s p) ps q
    ∙ (ap (λ b. is_in ps q || b)
    (finset.contains-insert nat_cmp_total s p q
    ∙ ap (λ b. b || finset.contains s q) (unsigned_tied q p))
    ∙ turned (is_in ps q) (nat_eq q p) (p == q) (finset.contains s q) (same_test q p))
  where
    turned : (a b c d : Bool) → b ≡ c → (a || (b || d)) ≡ ((c || a) || d)
    turned true b true d e = refl
    turned true b false d e = refl
    turned false b c d e = ap (λ x. x || d) e ∙ either c d
      where
        either : (c d : Bool) → (c || d) ≡ ((c || false) || d)
        either true d = refl
        either false d = refl

    same_test : (q p : ℕ) → nat_eq q p ≡ (p == q)
    same_test q p =
        same_answers (nat_eq q p) (p == q)
        (λ e. eq-eqb p q (sym (eqb-true q p e)))
        (λ e. eq-eqb q p (sym (eqb-true p q e)))

-- a member with this knowledge
abbrev knowing : Division → List (Facts Value) → State
knowing d facts = record { division = d; weights = []; me = 0; facts = facts; claim = None }

-- what its engine has as agreed
agreed_is : (d : Division) (facts : List (Facts Value)) (q : ℕ)
    → finset.contains ((engine_with d facts).agreed) q
    ≡ (is_in (positions d.tree) q && holds_package (knowing d facts) q)
agreed_is d facts q =
    let holds = holds_package (knowing d facts) in
    contains-from_list_nat (filter holds (positions d.tree)) q ∙ in_kept holds (positions d.tree) q

-- engines with the same agreed packages are equal
one_engine : (d : Division) (facts later : List (Facts Value))
    → ((q : ℕ) → holds_package (knowing d later) q ≡ holds_package (knowing d facts) q)
    → engine_with d later ≡ engine_with d facts
one_engine d facts later same =
    let sets = finset.same_set nat_cmp_total nat_cmp-IsAntisymmetric
    ((engine_with d later).agreed) ((engine_with d facts).agreed)
    (λ q. agreed_is d later q ∙ (ap (λ b. is_in (positions d.tree) q && b) (same q)
    ∙ sym (agreed_is d facts q))) in
    λ i. record { tree = d.tree; agreed = sets i }

module _ (d : Division) (facts : List (Facts Value)) (u : ℕ) (n : Note Value)
    (within : u < length facts) where
  -- the knowledge after the note
  abbrev later : List (Facts Value)
  later = noted_at (Some u) facts n

  -- another unit is held if it was before
  other_held : (v : ℕ) → (v ≡ u → ⊥)
      → is_held_any (knowing d later) (Some v) ≡ is_held_any (knowing d facts) (Some v)
  other_held v other =
      ap (λ (f : Facts Value). is_some f.held) (get_or-set_other facts u v _ no_facts other)

  -- the facts of the unit after the note
  known_then : slice_index_or later u no_facts
      ≡ noted (slice_index_or facts u no_facts) (note_of n.fact)
  known_then = get_or-set_same facts u _ no_facts within

  -- a fact without a build doesn't change what is held
  held_as_before : (fact : Fact Value) (f : Facts Value) → is_held_fact fact ≡ false
      → is_some (noted f (note_of fact)).held ≡ is_some f.held
  held_as_before (Opened round) f e = refl
  held_as_before (Promised c) f e = refl
  held_as_before (Voted c v) f e = refl
  held_as_before (Held v) f e = absurd (true≢false e)

  -- a fact that a build is held does
  held_then : (fact : Fact Value) (f : Facts Value) → is_held_fact fact ≡ true
      → is_some (noted f (note_of fact)).held ≡ true
  held_then (Opened round) f e = absurd (true≢false (sym e))
  held_then (Promised c) f e = absurd (true≢false (sym e))
  held_then (Voted c v) f e = absurd (true≢false (sym e))
  held_then (Held v) f e = by_held f.held
    where
      by_held : (h : Option Value) → is_some (first h v) ≡ true
      by_held None = refl
      by_held (Some w) = refl

  -- in the first case the engine is unchanged
  pub engine_stays : is_held_fact n.fact ≡ false → engine_with d later ≡ engine_with d facts
  engine_stays quiet = one_engine d facts later (λ q. by_number (number_of d q))
    where
      by_number : (k : Option ℕ)
          → is_held_any (knowing d later) k ≡ is_held_any (knowing d facts) k
      by_number None = refl
      by_number (Some v) =
          elim (cases_eq v u) [
            | inl same ↦
                ap (λ k. is_some (slice_index_or later k no_facts).held) same
                ∙ (ap (λ (f : Facts Value). is_some f.held) known_then
                ∙ (held_as_before n.fact (slice_index_or facts u no_facts) quiet
                ∙ ap (λ k. is_some (slice_index_or facts k no_facts).held) (sym same)))
            | inr other ↦ other_held v other
          ]

  -- in the second it also has the unit's packages
  pub engine_agrees : IsDivision d → u < length d.units → is_held_fact n.fact ≡ true
      → agreed_too (engine_with d facts) (unit_at d u).packages ≡ engine_with d later
  engine_agrees is lt held =
      let sets = finset.same_set nat_cmp_total nat_cmp-IsAntisymmetric
      (with_all ((engine_with d facts).agreed) packages) ((engine_with d later).agreed)
      (λ q. has_all ((engine_with d facts).agreed) packages q
      ∙ (ap (λ b. is_in packages q || b) (agreed_is d facts q)
      ∙ (by_number q (number_of d q) refl ∙ sym (agreed_is d later q)))) in
      λ i. record { tree = d.tree; agreed = sets i }
    where
      packages : List ℕ
      packages = (unit_at d u).packages

      all : List ℕ
      all = positions d.tree

      of_it : (q : ℕ) → is_in (unit_at d u).packages q ≡ true → number_of d q ≡ Some u
      of_it q e = (one_unit_has d u q is lt (in_contains (unit_at d u).packages q e)).0

      none_of_it : (a b : Bool) → a ≡ false → (a || b) ≡ b
      none_of_it true b e = absurd (true≢false e)
      none_of_it false b e = refl

      -- a package of the unit is listed, and held with it
      its_own : (q : ℕ) → number_of d q ≡ Some u → (v : ℕ) → v ≡ u
          → (is_in (unit_at d u).packages q
          || (is_in (positions d.tree) q && is_held_any (knowing d facts) (Some v)))
          ≡ (is_in (positions d.tree) q && is_held_any (knowing d later) (Some v))
      its_own q at v same =
          let member = (position-Some (λ x. is_in x.packages q) d.units u no_unit at).1 in
          let listed = unit_listed d u q is lt (in_contains (unit_at d u).packages q member) in
          let known =
          ap (λ k. is_held_any (knowing d later) (Some k)) same
          ∙ (ap (λ (f : Facts Value). is_some f.held) known_then
          ∙ held_then n.fact (slice_index_or facts u no_facts) held) in
          ap (λ b. b || (is_in (positions d.tree) q && is_held_any (knowing d facts) (Some v)))
          member
          ∙ sym (ap (λ b. b && is_held_any (knowing d later) (Some v))
          (below_in (length d.tree) q listed) ∙ known)

      by_number : (q : ℕ) (k : Option ℕ) → number_of d q ≡ k
          → (is_in (unit_at d u).packages q
          || (is_in (positions d.tree) q && is_held_any (knowing d facts) k))
          ≡ (is_in (positions d.tree) q && is_held_any (knowing d later) k)
      by_number q None at =
          none_of_it (is_in (unit_at d u).packages q) (is_in (positions d.tree) q && false)
          (not_true (is_in (unit_at d u).packages q)
          (λ e. let no : None ≡ Some u = sym at ∙ of_it q e in cc))
      by_number q (Some v) at =
          elim (cases_eq v u) [
            | inl same ↦ its_own q (at ∙ ap (λ k. Some k) same) v same
            | inr other ↦
                none_of_it (is_in (unit_at d u).packages q)
                (is_in (positions d.tree) q && is_held_any (knowing d facts) (Some v))
                (not_true (is_in (unit_at d u).packages q)
                (λ e. other (ap (λ k. unwrap_or k u) (sym at ∙ of_it q e))))
                ∙ ap (λ b. is_in (positions d.tree) q && b) (sym (other_held v other))
          ]
