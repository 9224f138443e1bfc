-- Which packages a member's engine has as held, and what follows from a unit's letter.
use Rattle.std.proofs.Common.{◌≡◌, ◌<◌, ◌&&◌, ℕ, Bool, true, false, length, sym, ap, subst, ◌∙◌, true≢false}
use Rattle.std.specs.Prelude.{Some, All, filter}
use Rattle.std.specs.FinSet.{contains-from_list_nat}
use Rattle.std.specs.List.{slice_index_or}
use Rattle.std.proofs.lemmas.Bool.{and_from, and_parts}
use Rattle.std.proofs.lemmas.List.Elements.{Contains-get_or}
use Rattle.engine.specs.Division.{number_of, unit_at}
use Rattle.engine.specs.Letters.{IsInstallable}
use Rattle.engine.specs.State.{has_agreed}
use Rattle.engine.specs.Units.{IsUnitOf, Unit, is_in, positions}
use Rattle.engine.specs.declared.Letter.{Letter}
use Rattle.engine.specs.declared.Letter.TheVariants as letters
use Rattle.engine.proofs.Kept.{unit_some}
use Rattle.engine.proofs.Lists.{below_in, in_below, in_kept, not_true}
use Rattle.engine.proofs.Once.{one_unit}
use Rattle.engine.proofs.Together.{not_ignored}
use Rattle.engine.proofs.WellMade.{one_unit_has}
use Rattle.listing.specs.Tree.{Tree}
use Rattle.protocol.specs.Member.{IsMember}
use Rattle.protocol.specs.State.{HasLetter, State, engine_of, holds_package, is_held, is_held_any}
use Rattle.protocol.specs.Step.{is_waiting}

-- the packages that the member holds
abbrev pub held_by : State → ℕ → Bool
held_by s = has_agreed (engine_of s)

-- a listed package whose unit is held
held_is : (s : State) (p : ℕ)
    → held_by s p ≡ (is_in (positions s.division.tree) p && holds_package s p)
held_is s p =
    let all = positions s.division.tree in
    contains-from_list_nat (filter (holds_package s) all) p ∙ in_kept (holds_package s) all p

pub held_parts : (s : State) (p : ℕ) → held_by s p ≡ true
    → (p < length s.division.tree) × (holds_package s p ≡ true)
held_parts s p e =
    let parts = and_parts (is_in (positions s.division.tree) p) (holds_package s p)
    (sym (held_is s p) ∙ e) in
    (in_below (length s.division.tree) p parts.0, parts.1)

pub held_from : (s : State) (p : ℕ) → p < length s.division.tree → holds_package s p ≡ true
    → held_by s p ≡ true
held_from s p lt held = held_is s p
    ∙ and_from (is_in (positions s.division.tree) p) (holds_package s p)
    (below_in (length s.division.tree) p lt) held

pub not_held_from : (s : State) (p : ℕ) → holds_package s p ≡ false → held_by s p ≡ false
not_held_from s p free =
    not_true (held_by s p) (λ e. true≢false (sym (held_parts s p e).1 ∙ free))

-- A package that is installable stays so if more is held.
pub stays_installable : (tree : Tree) (held more : ℕ → Bool)
    → ((q : ℕ) → held q ≡ true → more q ≡ true)
    → (p : ℕ) → IsInstallable tree held p → IsInstallable tree more p
stays_installable tree held more grows p i = record {
  among = i.among;
  member = i.member;
  all_held = λ q e. grows q (i.all_held q e);
  closed = i.closed;
}

-- everything that the build of the unit needs is installable
abbrev pub IsReady : State → ℕ → Type 0
IsReady s u = All (IsInstallable s.division.tree (held_by s)) (unit_at s.division u).build

module _ (s : State) (u : ℕ) (is : IsMember s) (lt : u < length s.division.units) where
  -- the first package of the unit
  abbrev first : ℕ
  first = slice_index_or (unit_at s.division u).packages 0 0

  first_is_of_it : (number_of s.division first ≡ Some u) × IsUnitOf s.division.tree first
      (unit_at s.division u)
  first_is_of_it = one_unit_has s.division u first is.division lt
      (Contains-get_or (unit_at s.division u).packages 0 0 (unit_some s.division u is.division lt))

  held_first : holds_package s first ≡ is_held s u
  held_first = ap (is_held_any s) first_is_of_it.0

  not_held_first : is_held s u ≡ false → held_by s first ≡ true → ⊥
  not_held_first free held =
      true≢false (sym (held_parts s first held).1 ∙ held_first ∙ free)

  -- If the unit is not held and does not wait, its build is ready.
  pub ready_by_letter : (letter : Letter) → HasLetter s u letter → is_held s u ≡ false
      → is_waiting letter ≡ false → IsReady s u
  ready_by_letter letters.T shown free waits = absurd (true≢false waits)
  ready_by_letter letters.Q shown free waits =
      let can = shown.2 in
      let same = one_unit s.division.tree first can.unit (unit_at s.division u) can.of_unit
      first_is_of_it.1 in
      subst (λ (v : Unit). All (IsInstallable s.division.tree (held_by s)) v.build) same
      can.installable
  ready_by_letter letters.B shown free waits = absurd (not_held_first free shown.0)
  ready_by_letter letters.I shown free waits = absurd (not_held_first free shown.0)
  ready_by_letter letters.Ignored shown free waits =
      absurd (not_ignored s.division.tree first (unit_at s.division u) first_is_of_it.1 shown.1)

  -- If its build is ready, it is queued.
  pub queued_by_need : is_held s u ≡ false → IsReady s u → HasLetter s u letters.Q
  queued_by_need free ready = (
    not_held_from s first (held_first ∙ free),
    not_ignored s.division.tree first (unit_at s.division u) first_is_of_it.1,
    record {
      unit = unit_at s.division u;
      of_unit = first_is_of_it.1;
      installable = ready;
    },
  )
