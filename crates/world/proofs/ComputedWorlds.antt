-- Worlds of three nodes, computed: which fault is found first, and how datagrams and packages are
-- added.
use Rattle.std.proofs.Common.{◌≡◌, ◌==◌, true, false, [], ◌∷◌, Some, None, refl}
use Rattle.faults.specs.Bytes.{Text}
use Rattle.claims.specs.Quorums.{is_majority}
use Rattle.protocol.specs.Events.{Claim, Nudge, Deliver, Stop, StopIn, Restart}
use Rattle.protocol.specs.declared.event.Left.TheVariants as left
use Rattle.engine.specs.Division.{Division}
use Rattle.world.specs.Happening.{fault_before}
use Rattle.world.specs.Sent.{with_datagram}
use Rattle.world.specs.World.{World, down_node, start, with_node}
use Rattle.world.specs.declared.fault.WorldFault.TheVariants as fault

module _ (d : Division) (path : Text) where
  -- three nodes that are up, and three of which the first is down
  abbrev all_up : World
  all_up = start d (1 ∷ 1 ∷ 1 ∷ [])

  abbrev first_down : World
  first_down = with_node all_up 0 (down_node [] [])

  -- a node that is up can't be restarted
  restart_of_one_that_is_up : fault_before all_up (Restart 0) ≡ Some fault.NodeUp
  restart_of_one_that_is_up = refl

  restart_of_one_that_is_down : fault_before first_down (Restart 0) ≡ None
  restart_of_one_that_is_down = refl

  -- there is no fourth node, whatever is asked of it
  no_fourth : fault_before all_up (Deliver 7 3) ≡ Some fault.NoSuchNode
  no_fourth = refl

  -- nothing was sent
  nothing_to_deliver : fault_before all_up (Deliver 0 1) ≡ Some fault.NoSuchDatagram
  nothing_to_deliver = refl

  -- that the node is down is found before that nothing was sent
  down_first : fault_before first_down (Deliver 0 0) ≡ Some fault.NodeDown
  down_first = refl

  no_stop_of_one_that_is_down : fault_before first_down (Stop 0) ≡ Some fault.NodeDown
  no_stop_of_one_that_is_down = refl

  no_stop_inside_either : fault_before first_down (StopIn (Nudge 0) left.Whole) ≡ Some
      fault.NodeDown
  no_stop_inside_either = refl

  -- only a step may be cut short; that is tested first
  no_stop_inside_a_restart : fault_before first_down (StopIn (Restart 7) left.None) ≡ Some
      (fault.BadTrace 0)
  no_stop_inside_a_restart = refl

  no_stop_inside_a_stop : fault_before all_up (StopIn (StopIn (Nudge 0) left.None) left.None) ≡ Some
      (fault.BadTrace 0)
  no_stop_inside_a_stop = refl

  -- the world doesn't test the host
  any_host : fault_before all_up (Claim 2 path 70000 0) ≡ None
  any_host = refl

-- a datagram that was sent before keeps its number, and a new one is appended
sent_again : with_datagram ((1 ∷ []) ∷ (2 ∷ []) ∷ []) (1 ∷ []) ≡ (1 ∷ []) ∷ (2 ∷ []) ∷ []
sent_again = refl

sent_first : with_datagram ((1 ∷ []) ∷ (2 ∷ []) ∷ []) (1 ∷ 2 ∷ []) ≡ (1 ∷ []) ∷ (2 ∷ [])
    ∷ (1 ∷ 2 ∷ []) ∷ []
sent_first = refl

-- if the third member weighs more than the others together, its vote is enough
third_alone : is_majority (1 ∷ 1 ∷ 3 ∷ []) (λ k. k == 2) ≡ true
third_alone = refl

-- if all weigh the same, it is not
third_of_equals : is_majority (1 ∷ 1 ∷ 1 ∷ []) (λ k. k == 2) ≡ false
third_of_equals = refl
