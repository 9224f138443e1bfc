use Rattle.std.proofs.Common.{◌≡◌, ◌++◌, ℕ, Vec, flat_map, take}
use Rattle.std.specs.declared.alloc.Global.{Global}
use Rattle.dpbr_run.specs.Events.{datagram_part}
use Rattle.dpbr_run.proofs.lines.put_datagrams.Given as goal

abbrev pub invariant-loop-datagram : goal.invariant-loop-datagram
invariant-loop-datagram l =
    l.text.items ≡ l.initial.text.items
    ++ flat_map (λ (d : Vec ℕ Global). datagram_part l.world.world.sent l.kind l.members d.items) (take l.datagram-index l.datagrams)
