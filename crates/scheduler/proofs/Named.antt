-- What is known of the unit that a name names.
use Rattle.std.proofs.Common.{◌≡◌, ◌<◌, ℕ, Some, ap, length, subst, sym}
use Rattle.std.specs.Prelude.{option_and_then}
use Rattle.engine.proofs.Names.{name_is_found}
use Rattle.engine.specs.Division.{number_of}
use Rattle.faults.specs.Answers.{option_or}
use Rattle.faults.specs.Bytes.{Text}
use Rattle.listing.specs.Tree.{position_of}
use Rattle.protocol.specs.Member.{IsMember}
use Rattle.protocol.specs.State.{State, facts_at, name_at}
use Rattle.protocol.specs.Step.{facts_named, facts_of_unit, unit_in}

module _ (s : State) (is : IsMember s) (u : ℕ) (there : u < length s.division.units) where
  -- its own name names it
  named : unit_in s (name_at s u) ≡ Some u
  named = ap (λ n. option_or n (option_and_then (number_of s.division) (position_of s.division.tree (name_at s u)))) (name_is_found s.division u is.division there)

  -- what is known by its name is what is known of it
  pub facts_by_name : (path : Text) → path ≡ name_at s u → facts_named s path ≡ facts_at s u
  facts_by_name path is_name = subst (λ p. facts_named s p ≡ facts_at s u) (sym is_name)
      (ap (facts_of_unit s) named)
