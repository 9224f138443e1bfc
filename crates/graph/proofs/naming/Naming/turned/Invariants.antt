use Rattle.std.proofs.Common.{◌≡◌, take}
use Rattle.graph.specs.inside.Links.{linked_lists}
use Rattle.graph.specs.inside.Ranges.{AreWithin, parts}
use Rattle.graph.proofs.naming.Naming.turned.Given as goal

abbrev pub invariant-loop-latest : goal.invariant-loop-latest
invariant-loop-latest l = record {
  within : AreWithin l.names.items l.ranges.items;
  named : parts l.names.items l.ranges.items ≡ linked_lists l.self-inside.links.items (take l.latest-index l.self-inside.latest.items);
}
