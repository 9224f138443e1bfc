use Rattle.std.proofs.Common.{◌≤◌, length, map}
use Rattle.udp.specs.Hosts.{WriteHosts}
use Rattle.udp.proofs.hosts.parse_hosts.Given as goal

abbrev pub invariant-loop-part : goal.invariant-loop-part
invariant-loop-part l = record {
  written : WriteHosts (map (λ x. x.now) l.yielded) l.hosts.items;
  few : length l.hosts.items ≤ l.members;
}
