use Rattle.std.proofs.Common.{◌≡◌, ◌≤◌, ◌++◌, length}
use Rattle.graph.specs.inside.Links.{linked_list}
use Rattle.graph.proofs.naming.append_linked.Given as goal

abbrev pub invariant-links : goal.invariant-links
invariant-links l = record {
  within : l.left ≤ length l.links;
  named : l.names.items ++ linked_list l.links l.left ≡ l.initial.names.items ++ linked_list l.links l.latest;
}

abbrev pub decreases-links : goal.decreases-links
decreases-links l = l.left
