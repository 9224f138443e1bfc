use Rattle.std.proofs.Common.{◌≡◌, ◌≤◌, ◌+◌, ◌*◌, ◌++◌, ℕ, suc, Some, map, take}
use Rattle.claims.specs.declared.claim.Claim.{Claim}
use Rattle.protocol.specs.Events.{event_view}
use Rattle.engine.specs.Division.{number_found}
use Rattle.ways_on.specs.inside.Listed.{asks_from, behind_promises}
use Rattle.ways_on.proofs.route.ask.Given as goal
use Rattle.wire.specs.Pieces.{most_pieces}

abbrev pub invariant-loop-other : goal.invariant-loop-other
invariant-loop-other l = record {
  events : (u : ℕ) (c : Claim) → number_found l.world.world.division l.path ≡ Some u
      → c.member ≡ l.node
      → map event_view l.events.items ≡ map event_view l.initial.events.items
      ++ asks_from l.world.world u c l.offer (suc l.offer) (take l.other-index l.asked);
  next : (u : ℕ) (c : Claim) → number_found l.world.world.division l.path ≡ Some u
      → l.next ≡ behind_promises l.world.world u c (suc l.offer) (take l.other-index l.asked);
  small : l.next ≤ l.offer + 1 + most_pieces * l.other-index;
}
