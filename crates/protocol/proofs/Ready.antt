-- A unit that is claimed can be built: everything that it needs is held.
use Rattle.std.proofs.Common.{◌≡◌, ◌<◌, ℕ, Bool, true, false, All, length, Some, sym, ap}
use Rattle.std.proofs.Common.{subst, ◌∙◌}
use Rattle.std.specs.Prelude.{filter}
use Rattle.std.specs.FinSet.{contains-from_list_nat}
use Rattle.std.specs.List.{slice_index_or}
use Rattle.std.proofs.lemmas.Bool.{and_parts, true≢false}
use Rattle.std.proofs.lemmas.List.Elements.{All-weaker, Contains-get_or}
use Rattle.engine.specs.Letters.{IsInstallable}
use Rattle.engine.specs.State.{has_agreed}
use Rattle.engine.specs.declared.Letter.{Letter}
use Rattle.engine.specs.declared.Letter.TheVariants as letters
use Rattle.engine.specs.Division.{number_of, unit_at}
use Rattle.engine.specs.Units.{IsUnitOf, is_in, positions}
use Rattle.engine.proofs.Kept.{unit_some}
use Rattle.engine.proofs.Lists.{in_kept}
use Rattle.engine.proofs.Once.{one_unit}
use Rattle.engine.proofs.WellMade.{one_unit_has}
use Rattle.protocol.specs.State.{HasLetter, State, engine_of, holds_package, is_held, is_held_any}
use Rattle.protocol.specs.Member.{IsMember}
use Rattle.protocol.specs.Step.{is_waiting}

-- the packages that the member holds
abbrev held_by : State → ℕ → Bool
held_by s = has_agreed (engine_of s)

-- what the engine has as agreed is held
held_package : (s : State) (p : ℕ) → held_by s p ≡ true → holds_package s p ≡ true
held_package s p e =
    let all = positions s.division.tree in
    let found = sym (contains-from_list_nat (filter (holds_package s) all) p) ∙ e in
    (and_parts (is_in all p) (holds_package s p) (sym (in_kept (holds_package s) all p) ∙ found)).1

-- A package that is installable is held.
installable_held : (s : State) (p : ℕ) → IsInstallable s.division.tree (held_by s) p
    → holds_package s p ≡ true
installable_held s p is = held_package s p (is.all_held p is.member)

module _ (s : State) (u : ℕ) (is : IsMember s) (lt : u < length s.division.units) where
  -- the first package of the unit
  abbrev first : ℕ
  first = slice_index_or (unit_at s.division u).packages 0 0

  first_is_of_it : (number_of s.division first ≡ Some u) × IsUnitOf s.division.tree first
      (unit_at s.division u)
  first_is_of_it = one_unit_has s.division u first is.division lt
      (Contains-get_or (unit_at s.division u).packages 0 0 (unit_some s.division u is.division lt))

  not_held_first : is_held s u ≡ false → holds_package s first ≡ true → ⊥
  not_held_first free held = true≢false (sym held ∙ (ap (is_held_any s) first_is_of_it.0 ∙ free))

  -- If the unit is not held and does not wait, its build is ready.
  pub ready_by_letter : (letter : Letter) → HasLetter s u letter → is_held s u ≡ false
      → is_waiting letter ≡ false
      → All (λ p. holds_package s p ≡ true) (unit_at s.division u).build
  ready_by_letter letters.T shown free waits = absurd (true≢false waits)
  ready_by_letter letters.Q shown free waits =
      let can = shown.2 in
      let same = one_unit s.division.tree first can.unit (unit_at s.division u) can.of_unit
      first_is_of_it.1 in
      subst (λ v. All (λ p. holds_package s p ≡ true) v.build) same
      (All-weaker (IsInstallable s.division.tree (held_by s)) (λ p. holds_package s p ≡ true)
      (installable_held s) can.unit.build can.installable)
  ready_by_letter letters.B shown free waits =
      absurd (not_held_first free (held_package s first shown.0))
  ready_by_letter letters.I shown free waits =
      absurd (not_held_first free (held_package s first shown.0))
  ready_by_letter letters.Ignored shown free waits =
      let of = first_is_of_it.1 in
      absurd (true≢false (sym ((of.are_ignored first).1 shown.1) ∙ of.not_ignored))
