use Rattle.std.proofs.Common.{◌≡◌, IfSome, List, ℕ}
use Rattle.udp.specs.Notifying.{AreNotified}
use Rattle.udp.proofs.udp_port.notifying.notify_each.Given as goal

abbrev pub invariant-loop-to : goal.invariant-loop-to
invariant-loop-to l = (text : List ℕ) → IfSome l.bytes (λ b. b.now ≡ text)
    → AreNotified l.seats l.addresses l.from text l.to
    (record { waiting = l.fn.leaving.waiting.items; tallies = l.fn.tallies.members.items })
    (record { waiting = l.leaving.waiting.items; tallies = l.tallies.members.items })
