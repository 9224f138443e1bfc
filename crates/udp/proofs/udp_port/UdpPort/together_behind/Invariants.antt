use Rattle.std.proofs.Common.{◌≡◌, ◌≤◌, length}
use Rattle.udp.specs.Ways.{AreInOrder}
use Rattle.udp.proofs.udp_port.UdpPort.together_behind.Given as goal

abbrev pub invariant-loop-node : goal.invariant-loop-node
invariant-loop-node g l = record {
  seats : length l.seats.items ≡ l.node;
  addresses : length l.addresses.items ≡ l.node;
  few : l.node ≤ l.members;
  in_order : AreInOrder l.seats.items;
}
