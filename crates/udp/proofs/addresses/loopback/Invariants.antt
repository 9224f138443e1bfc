use Rattle.std.proofs.Common.{◌≡◌, ◌≤◌, length}
use Rattle.udp.specs.Ways.{AreLocal}
use Rattle.udp.proofs.addresses.loopback.Given as goal

abbrev pub invariant-loop-member : goal.invariant-loop-member
invariant-loop-member l = record {
  count : length l.addresses.items ≡ l.member;
  few : l.member ≤ l.members;
  local : AreLocal l.base l.addresses.items;
}
