-- The letter of a unit's first package shows whether the unit is held.
use Rattle.std.proofs.Common.{◌≡◌, ◌<◌, ◌≤◌, ◌&&◌, ◌∙◌, ℕ, false, ap, arith, filter, length, sym}
use Rattle.std.specs.Prelude.{Contains, is_some}
use Rattle.std.specs.FinSet.{contains-from_list_nat}
use Rattle.std.specs.List.{slice_index_or}
use Rattle.std.proofs.lemmas.List.{get_or_past}
use Rattle.std.proofs.lemmas.List.Elements.{Contains-get_or}
use Rattle.claims.specs.Member.{no_facts}
use Rattle.engine.proofs.Kept.{unit_listed, unit_some}
use Rattle.engine.proofs.Lists.{below_in, in_kept}
use Rattle.engine.proofs.WellMade.{one_unit_has}
use Rattle.engine.specs.Division.{unit_at}
use Rattle.engine.specs.State.{HasLetter, has_agreed}
use Rattle.engine.specs.Units.{positions}
use Rattle.engine.specs.declared.Letter.{Letter}
use Rattle.engine.specs.declared.Letter.TheVariants as letters
use Rattle.protocol.specs.Member.{IsMember}
use Rattle.protocol.specs.State.{State, engine_of, holds_package, is_held, is_held_any}
use Rattle.scheduler.specs.Held.{is_letter_held}

-- a letter shows whether its package is agreed
letter_tells : (s : State) (p : ℕ) (letter : Letter) → HasLetter (engine_of s) p letter
    → is_letter_held letter ≡ has_agreed (engine_of s) p
letter_tells s p letters.T shown = sym shown.0
letter_tells s p letters.Q shown = sym shown.0
letter_tells s p letters.B shown = sym shown.0
letter_tells s p letters.I shown = sym shown.0
letter_tells s p letters.Ignored shown = sym shown.0

module _ (s : State) (u : ℕ) (is : IsMember s) where
  -- what is past the last unit is not held
  pub none_held : length s.division.units ≤ u → is_held s u ≡ false
  none_held past = ap (λ f. is_some f.held) (get_or_past s.facts u no_facts (omega (arith, is.each, past)))

  module _ (lt : u < length s.division.units) where
    -- the unit's first package
    abbrev pub first : ℕ
    first = slice_index_or (unit_at s.division u).packages 0 0

    first_there : Contains (unit_at s.division u).packages first
    first_there = Contains-get_or (unit_at s.division u).packages 0 0
        (unit_some s.division u is.division lt)

    first_agreed : has_agreed (engine_of s) first ≡ is_held s u
    first_agreed =
        let all = positions s.division.tree in
        contains-from_list_nat (filter (holds_package s) all) first
        ∙ (in_kept (holds_package s) all first
        ∙ (ap (λ b. b && holds_package s first)
        (below_in (length s.division.tree) first
        (unit_listed s.division u first is.division lt first_there))
        ∙ ap (is_held_any s) (one_unit_has s.division u first is.division lt first_there).0))

    pub letter_tells_held : (letter : Letter) → HasLetter (engine_of s) first letter
        → is_letter_held letter ≡ is_held s u
    letter_tells_held letter shown = letter_tells s first letter shown ∙ first_agreed
