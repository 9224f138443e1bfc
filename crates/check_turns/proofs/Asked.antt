-- How often a port was asked.
use Rattle.std.proofs.Common.{◌∙◌, ◌≤◌, ◌+◌, ◌++◌, ℕ, Bool, true, false, List, [], Option, None, Some, Result, Ok, Err, IfErr, IfOk, ap, append-nil, append_assoc, arith, length, length-append, sym}
use Rattle.std.specs.Prelude.{IfNone, IfSome}
use Rattle.turn_rules.specs.Choice.{Chosen}
use Rattle.cluster_turns.specs.Choice.{has_job}
use Rattle.turn_rules.specs.declared.fault.TurnFault.{TurnFault}
use Rattle.turn_rules.specs.declared.fault.TurnFault.TheVariants as refused
use Rattle.cluster_turns.specs.Choosing.{looked_for}
use Rattle.protocol.specs.Events.{event_view}
use Rattle.protocol.specs.declared.event.Event as declared
use Rattle.node.specs.Step.{Comes}
use Rattle.datagram_ports.specs.Kept.{Arrived, GoesOnBy}
use Rattle.protocol.specs.Given.{Given}
use Rattle.cluster_turns.specs.Faults.{IsTurnFault}
use Rattle.cluster_turns.specs.State.{ClusterState, here_of}
use Rattle.cluster_turns.specs.Turn.{IsChosen, IsEventChosen}
use Rattle.check_turns.specs.Going.{WasAskedAtMost}
use Rattle.datagram_ports.specs.declared.port.Port.{Ghosts as Port}

few : (b : Bool) (came : Arrived) → length (looked_for b came) ≤ 1
few true came = let small : 0 ≤ 1 = omega arith in small
few false came = let small : 1 ≤ 1 = omega arith in small

goes_on : {X : Type 0} (first second : List X) (x y z : Option (List X)) → GoesOnBy first x y
    → GoesOnBy second y z → GoesOnBy (first ++ second) x z
goes_on first second x y None one two = tt
goes_on first second x None (Some zs) one two = absurd two
goes_on first second None (Some ys) (Some zs) one two = absurd one
goes_on first second (Some xs) (Some ys) (Some zs) one two =
    two ∙ ap (λ l. l ++ second) one ∙ append_assoc xs first second

stays : {X : Type 0} (o : Option (List X)) → GoesOnBy [] o o
stays None = tt
stays (Some xs) = sym (append-nil xs)

module _ {P : Type 0} (port : Port P) where
  pub never : (p : P) → WasAskedAtMost 0 port p p
  never p = ([], (let none : 0 ≤ 0 = omega arith in none), stays (port.given p))

  -- the counts of two parts add up
  pub and_then : (m n : ℕ) (x y z : P) → WasAskedAtMost m port x y → WasAskedAtMost n port y z
      → WasAskedAtMost (m + n) port x z
  and_then m n x y z (came, at_most, on) (more, at_most_more, on_more) = (
    came ++ more,
    omega (arith, length-append came more),
    goes_on came more (port.given x) (port.given y) (port.given z) on on_more,
  )

  pub so_often : (m n : ℕ) (x y : P) → m ≤ n → WasAskedAtMost m port x y → WasAskedAtMost n port x y
  so_often m n x y no_more (came, at_most, on) = (came, omega arith, on)

  module _ {D : Type 0} (old new : ClusterState D P) (builds : Given) where
    once : (chosen : Chosen) → IsChosen port old new builds chosen
        → WasAskedAtMost 1 port old.port new.port
    once chosen is = (
      looked_for (has_job (here_of old) (length old.weights) builds) is.came,
      few (has_job (here_of old) (length old.weights) builds) is.came,
      is.looked,
    )

    once_refused : (f : TurnFault) → IsTurnFault port old new builds f
        → WasAskedAtMost 1 port old.port new.port
    once_refused refused.Memory (chosen, is) = once (Some chosen) is
    once_refused (refused.Node f) (e, is, why) = once (Some is.chosen) is.is_chosen
    once_refused (refused.Down k) (e, is, why) = once (Some is.chosen) is.is_chosen
    once_refused refused.NotSent (k, text, is, why) = once (Some (k, Comes text)) is
    once_refused refused.NotFresh why = absurd why

    -- a turn asks at most once, whatever its result
    pub in_a_turn : (r : Result (Option declared.Event) TurnFault)
        → IfOk r (λ o. IfSome o (λ e. IsEventChosen port old new builds (event_view e)))
        → IfOk r (λ o. IfNone o (IsChosen port old new builds None))
        → IfErr r (IsTurnFault port old new builds) → WasAskedAtMost 1 port old.port new.port
    in_a_turn (Ok None) chosen nothing why = once None nothing
    in_a_turn (Ok (Some e)) chosen nothing why = once (Some chosen.chosen) chosen.is_chosen
    in_a_turn (Err f) chosen nothing why = once_refused f why
