-- What the node does on its initiative, prepared.
use Rattle.std.proofs.Common.{◌≡◌, ◌||◌, ℕ, false, Option, Result, Ok, Err, IfErr, IfOk, length, refl, sym, subst, ◌∙◌}
use Rattle.turn_rules.specs.Choice.{IsDoneBy, IsDoneIf}
use Rattle.turn_rules.specs.Own.{IsOwn}
use Rattle.turn_rules.specs.Pending.{Pending, above_at, has_failed}
use Rattle.turn_rules.specs.Scheduled.{scheduled}
use Rattle.turn_rules.specs.declared.fault.TurnFault.{TurnFault}
use Rattle.turn_rules.specs.declared.initiative.Initiative.{Initiative}
use Rattle.turn_rules.specs.declared.initiative.Initiative.TheVariants.{Own, Scheduled}
use Rattle.turn_rules.specs.declared.wish.Wish.{Wish}
use Rattle.node.specs.State.{LoggedNode}
use Rattle.node.specs.declared.fault.NodeFault.{NodeFault}
use Rattle.turn_rules.specs.CausedSteps.{IsNoPart, IsPart}
use Rattle.turn_rules.specs.declared.caused_step.CausedStep.{CausedStep}
use Rattle.protocol.specs.declared.input.Input.{Input}
use Rattle.lone_node.proofs.Only.{does_is}
use Rattle.lone_node.specs.State.{member_up, only}
use Rattle.lone_node.specs.inside.Turning.{told}

-- ---- by the initiative

module _ {D : Type 0} (n : LoggedNode D) (p : Pending) (above : Option ℕ) (i : Initiative) where
  -- The member does this, if anything, if only units with failed builds are barred.
  abbrev pub DoesBy : Initiative → Option Input → Type 0
  DoesBy j done = IsDoneBy j n.node.member above (λ u. has_failed p u || false) done

  -- The results that are prepared, and those that aren't.
  abbrev pub IsPrepared : Option CausedStep → Type 0
  IsPrepared r = (done : Option Input) × DoesBy i done × IsPart n done r

  abbrev pub IsUnprepared : NodeFault → Type 0
  IsUnprepared f = (done : Option Input) × DoesBy i done × IsNoPart n done f

  -- its own
  own_prepared : i ≡ Own → (m : LoggedNode D) → m ≡ n → (r : Option CausedStep)
      → ((own : Option Input)
      × IsOwn n.node.member above (λ u. has_failed p u || false) own × IsPart m own r)
      → IsPrepared r
  own_prepared is m same r (own, does, part) = (
    own,
    subst (λ j. DoesBy j own) (sym is) does,
    subst (λ x. IsPart x own r) same part,
  )

  own_unprepared : i ≡ Own → (m : LoggedNode D) → m ≡ n → (f : NodeFault)
      → ((own : Option Input)
      × IsOwn n.node.member above (λ u. has_failed p u || false) own × IsNoPart m own f)
      → IsUnprepared f
  own_unprepared is m same f (own, does, none) = (
    own,
    subst (λ j. DoesBy j own) (sym is) does,
    subst (λ x. IsNoPart x own f) same none,
  )

  -- its scheduler's
  scheduled_prepared : (wish : Option Wish) → i ≡ Scheduled wish → (r : Option CausedStep)
      → IsPart n (scheduled wish above n.node.member) r → IsPrepared r
  scheduled_prepared wish is r part = (
    scheduled wish above n.node.member,
    subst (λ j. DoesBy j (scheduled wish above n.node.member)) (sym is) refl,
    part,
  )

  scheduled_unprepared : (wish : Option Wish) → i ≡ Scheduled wish → (f : NodeFault)
      → IsNoPart n (scheduled wish above n.node.member) f → IsUnprepared f
  scheduled_unprepared wish is f none = (
    scheduled wish above n.node.member,
    subst (λ j. DoesBy j (scheduled wish above n.node.member)) (sym is) refl,
    none,
  )

  -- ---- the same of results

  pub own_prepareds : i ≡ Own → (m : LoggedNode D) → m ≡ n
      → (answer : Result (Option CausedStep) NodeFault)
      → IfOk answer (λ r. (own : Option Input)
      × IsOwn n.node.member above (λ u. has_failed p u || false) own × IsPart m own r)
      → IfOk answer IsPrepared
  own_prepareds is m same (Ok r) part = own_prepared is m same r part
  own_prepareds is m same (Err f) part = tt

  pub own_unprepareds : i ≡ Own → (m : LoggedNode D) → m ≡ n
      → (answer : Result (Option CausedStep) NodeFault)
      → IfErr answer (λ f. (own : Option Input)
      × IsOwn n.node.member above (λ u. has_failed p u || false) own × IsNoPart m own f)
      → IfErr answer IsUnprepared
  own_unprepareds is m same (Ok r) none = tt
  own_unprepareds is m same (Err f) none = own_unprepared is m same f none

  pub scheduled_prepareds : (wish : Option Wish) → i ≡ Scheduled wish
      → (answer : Result (Option CausedStep) NodeFault)
      → IfOk answer (IsPart n (scheduled wish above n.node.member)) → IfOk answer IsPrepared
  scheduled_prepareds wish is (Ok r) part = scheduled_prepared wish is r part
  scheduled_prepareds wish is (Err f) part = tt

  pub scheduled_unprepareds : (wish : Option Wish) → i ≡ Scheduled wish
      → (answer : Result (Option CausedStep) NodeFault)
      → IfErr answer (IsNoPart n (scheduled wish above n.node.member))
      → IfErr answer IsUnprepared
  scheduled_unprepareds wish is (Ok r) none = tt
  scheduled_unprepareds wish is (Err f) none = scheduled_unprepared wish is f none

-- ---- as the choice says it

module _ {D : Type 0} (n : LoggedNode D) (p : Pending) (me : ℕ) (this : me ≡ n.node.member.me)
    (up : n.node.stopped ≡ false) (above : Option ℕ) (named : above ≡ above_at p me)
    (i : Initiative) where
  -- The node does this on its initiative, if anything.
  abbrev pub DoesSo : Option Input → Type 0
  DoesSo done = IsDoneIf (only n.node) (length n.node.member.weights) p (λ k. i) me
      (member_up n.node) done

  does_so : (done : Option Input) → DoesBy n p above i i done → DoesSo done
  does_so done is = subst
      (λ k. IsDoneIf (only n.node) (length n.node.member.weights) p (λ j. i) k
      (member_up n.node) done)
      (sym this)
      (does_is n.node (length n.node.member.weights) p (λ j. i) done up
      (subst (λ a. IsDoneBy i n.node.member a (λ u. has_failed p u || false) done)
      (named ∙ (λ j. above_at p (this j))) is))

  -- it is prepared
  pub done_part : (r : Option CausedStep) → IsPrepared n p above i r
      → (done : Option Input) × DoesSo done × IsPart n done r
  done_part r (done, is, part) = (done, does_so done is, part)

  -- or it is refused
  pub done_refused : (f : TurnFault) (g : NodeFault) → f ≡ told g → IsUnprepared n p above i g
      → (done : Option Input) × (g : NodeFault) × DoesSo done × (f ≡ told g)
      × IsNoPart n done g
  done_refused f g tells (done, is, none) = (done, g, does_so done is, tells, none)
