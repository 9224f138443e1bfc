use Rattle.std.proofs.Common.{◌≡◌, map}
use Rattle.serde_json.specs.View.{members_view}
use Rattle.traces.specs.Builds.{packages_behind}
use Rattle.traces.proofs.builds.add_all.Given as goal

abbrev pub invariant-loop-key : goal.invariant-loop-key
invariant-loop-key l = record {
  paths : l.paths.keys ≡ map (λ p. p.0) l.packages.items;
  rest : packages_behind l.initial.packages.items (members_view l.members.entries) ≡ packages_behind l.packages.items (members_view l.key-iterator);
}
