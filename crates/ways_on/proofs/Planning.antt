-- Which test fails, if one does, and the parts of a way if none does.
use Rattle.std.proofs.Common.{◌≡◌, ◌<◌, ℕ, suc, Bool, true, false, not, nat_lt, [], ◌∷◌, Option, None, Some, option_map, Result, Ok, Err, refl, sym, ap, subst, ◌∙◌, lt-ltb, ltb-true}
use Rattle.std.proofs.lemmas.Bool.{cond-false, cond-true}
use Rattle.claims.specs.Claim.{greatest_round}
use Rattle.engine.specs.declared.Letter.{Letter}
use Rattle.engine.specs.declared.Letter.TheVariants as letters
use Rattle.faults.specs.Answers.{first_that_applies, option_or, unless_fault}
use Rattle.faults.specs.Bytes.{Text}
use Rattle.package_record.specs.Making.{build_fault}
use Rattle.package_record.specs.declared.RecordFault.{RecordFault}
use Rattle.protocol.specs.Given.{Given}
use Rattle.protocol.specs.Jobs.{are_given, paths_at}
use Rattle.protocol.specs.State.{State, Value}
use Rattle.protocol.specs.Step.{IsLetterOf, files_refusal}
use Rattle.protocol.specs.declared.refusal.Refusal.{Refusal}
use Rattle.protocol.specs.declared.refusal.Refusal.TheVariants as refusals
use Rattle.ways_on.specs.Asked.{IsTested, is_majority_up, is_queued, next_build, refusal_at, refusal_for}
use Rattle.ways_on.specs.Rounds.{is_round_left, last_round}
use Rattle.ways_on.specs.declared.fault.WayFault.{WayFault}
use Rattle.ways_on.specs.declared.fault.WayFault.TheVariants as fault
use Rattle.ways_on.specs.declared.plan.Plan.{Plan}
use Rattle.ways_on.specs.inside.Listed.{asked_of}
use Rattle.ways_on.specs.inside.Planned.{IsPlan, IsShown, as_way, made_under, next_or_fault}
use Rattle.world.specs.World.{World, member_at}

-- if the unit is shown, its letter is Q, and only the other tests remain
pub tested_shown : (w : World) (k : ℕ) (path : Text) (host : ℕ) (given : Given)
    (s : IsShown w k path) → IsTested w k path host given
    (refusal_for w (member_at w k s.node) letters.Q host given s.unit)
tested_shown w k path host given s = record {
  node = s.node;
  stands = s.stands;
  up = s.up;
  letter = letters.Q;
  shown = subst (λ o. IsLetterOf (member_at w k s.node) o letters.Q) (sym s.named) s.queued;
  tested_is = ap (refusal_at w (member_at w k s.node) letters.Q path host given) (sym s.named);
}

-- The result is the build if nothing is refused, and otherwise the reason.
abbrev pub Fits : Option WayFault → Value → Result Value WayFault → Type 0
Fits reason v (Ok build) = (reason ≡ None) × (build ≡ v)
Fits reason v (Err f) = reason ≡ Some f

-- the tests of the files
abbrev files_tested : Bool → Option RecordFault → Option Refusal
files_tested given fault = option_or
    (first_that_applies ((not given, refusals.OtherPackages) ∷ []))
    (option_map refusals.BadFiles fault)

files_fit : (given : Bool) (f : Option RecordFault) (v : Value)
    → Fits (option_map fault.Refused (files_tested given f)) v
    (as_way (unless_fault (files_tested given f) v))
files_fit true None v = (refl, refl)
files_fit true (Some f) v = refl
files_fit false f v = refl

module _ (w : World) (s : State) (host : ℕ) (given : Given) (u : ℕ) where
  -- the build that the files make
  abbrev build : Value
  build = next_build w s u host given

  -- why there is no way, if there is a reason
  abbrev reason : Option WayFault
  reason = refusal_for w s letters.Q host given u

  -- the tests, given whether a majority is up and whether a round is left
  abbrev tests : Bool → Bool → Option WayFault
  tests enough left = option_or
      (first_that_applies (
      (not enough, fault.NoMajority) ∷ (not left, fault.Refused refusals.RoundsSpent) ∷ []))
      (option_map fault.Refused (files_refusal s u given build))

  pub lacks_majority : is_majority_up w ≡ false → reason ≡ Some fault.NoMajority
  lacks_majority e = ap (λ b. tests b (is_round_left w u s.me)) e

  pub next_fits : is_majority_up w ≡ true
      → Fits reason build (next_or_fault s u host (last_round w u s.me) given)
  next_fits enough = by (is_round_left w u s.me) refl
    where
      by : (b : Bool) → is_round_left w u s.me ≡ b
          → Fits reason build (next_or_fault s u host (last_round w u s.me) given)
      by true left =
          subst (Fits reason build)
          (sym (cond-true (nat_lt (last_round w u s.me) greatest_round)
          (as_way (made_under s u host (record { round = suc (last_round w u s.me); member = s.me })
          given)) (Err (fault.Refused refusals.RoundsSpent)) left))
          (subst (λ o. Fits o build (as_way (unless_fault (files_refusal s u given build) build)))
          (sym (ap (λ b. tests b (is_round_left w u s.me)) enough ∙ ap (tests true) left))
          (files_fit (are_given (paths_at s u) given) (build_fault build) build))
      by false spent =
          subst (Fits reason build)
          (sym (cond-false (nat_lt (last_round w u s.me) greatest_round)
          (as_way (made_under s u host (record { round = suc (last_round w u s.me); member = s.me })
          given)) (Err (fault.Refused refusals.RoundsSpent)) spent))
          (ap (λ b. tests b (is_round_left w u s.me)) enough ∙ ap (tests true) spent)

-- If a round is left, the result is what is made under the claim in the next round.
pub next_left : (s : State) (u host last : ℕ) (given : Given) → last < greatest_round
    → (round : ℕ) → round ≡ suc last
    → next_or_fault s u host last given
    ≡ as_way (made_under s u host (record { round = round; member = s.me }) given)
next_left s u host last given left round above =
    cond-true (nat_lt last greatest_round)
    (as_way (made_under s u host (record { round = suc last; member = s.me }) given))
    (Err (fault.Refused refusals.RoundsSpent)) (lt-ltb last greatest_round left)
    ∙ ap (λ r. as_way (made_under s u host (record { round = r; member = s.me }) given))
    (sym above)

-- If the result is a build, a round is left.
pub is_left : (s : State) (u host last : ℕ) (given : Given) (build : Value)
    → next_or_fault s u host last given ≡ Ok build → last < greatest_round
is_left s u host last given build e = by (nat_lt last greatest_round) refl
  where
    by : (b : Bool) → nat_lt last greatest_round ≡ b → last < greatest_round
    by true left = ltb-true last greatest_round left
    by false spent =
        let none : Err (fault.Refused refusals.RoundsSpent) ≡ Ok build =
        sym (cond-false (nat_lt last greatest_round)
        (as_way (made_under s u host (record { round = suc last; member = s.me }) given))
        (Err (fault.Refused refusals.RoundsSpent)) spent) ∙ e in
        absurd (let no : Err (fault.Refused refusals.RoundsSpent) ≡ Ok build = none in cc)

-- a unit with another letter than Q can't be built now
pub not_queued : (letter : Letter) → (letter ≡ letters.Q → ⊥) → is_queued letter ≡ false
not_queued letters.T other = refl
not_queued letters.Q other = absurd (other refl)
not_queued letters.B other = refl
not_queued letters.I other = refl
not_queued letters.Ignored other = refl

pub refused_letter : (w : World) (s : State) (letter : Letter) (host : ℕ) (given : Given) (u : ℕ)
    → is_queued letter ≡ false → refusal_for w s letter host given u ≡ Some fault.NotQueued
refused_letter w s letter host given u e = ap (λ b. option_or
    (first_that_applies (
    (not b, fault.NotQueued)
    ∷ (not (is_majority_up w), fault.NoMajority)
    ∷ (not (is_round_left w u s.me), fault.Refused refusals.RoundsSpent)
    ∷ []))
    (option_map fault.Refused (files_refusal s u given (next_build w s u host given)))) e

-- ---- if the unit is shown

module _ (w : World) (k : ℕ) (path : Text) (host : ℕ) (given : Given) (s : IsShown w k path) where
  abbrev member : State
  member = member_at w k s.node

  abbrev Tested : Option WayFault → Type 0
  Tested = IsTested w k path host given

  pub no_majority : is_majority_up w ≡ false → Tested (Some fault.NoMajority)
  no_majority e = subst Tested (lacks_majority w member host given s.unit e)
      (tested_shown w k path host given s)

  module _ (enough : is_majority_up w ≡ true) (last : ℕ) (is : last ≡ last_round w s.unit k) where
    fits : Fits (refusal_for w member letters.Q host given s.unit)
        (next_build w member s.unit host given) (next_or_fault member s.unit host last given)
    fits = subst (λ l. Fits (refusal_for w member letters.Q host given s.unit)
        (next_build w member s.unit host given) (next_or_fault member s.unit host l given))
        (sym is) (next_fits w member host given s.unit enough)

    pub no_build : (f : WayFault) → next_or_fault member s.unit host last given ≡ Err f
        → Tested (Some f)
    no_build f e = subst Tested
        (subst (Fits (refusal_for w member letters.Q host given s.unit)
        (next_build w member s.unit host given)) e fits) (tested_shown w k path host given s)

    fits_build : (v : Value) → next_or_fault member s.unit host last given ≡ Ok v
        → (refusal_for w member letters.Q host given s.unit ≡ None)
        × (v ≡ next_build w member s.unit host given)
    fits_build v e = subst (Fits (refusal_for w member letters.Q host given s.unit)
        (next_build w member s.unit host given)) e fits

    pub is_granted : (v : Value) → next_or_fault member s.unit host last given ≡ Ok v
        → Tested None
    is_granted v e = subst Tested (fits_build v e).0 (tested_shown w k path host given s)

    pub is_planned : (plan : Plan) → plan.asked.items ≡ asked_of w → plan.last ≡ last
        → next_or_fault member s.unit host last given ≡ Ok plan.build
        → IsPlan w k path host given plan
    is_planned plan asked same e = record {
      shown = s;
      enough = enough;
      asked = asked;
      last = same ∙ is;
      left = subst (λ l. l < greatest_round) (sym same)
          (is_left member s.unit host last given plan.build e);
      build = (fits_build plan.build e).1;
    }
