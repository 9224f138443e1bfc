use Rattle.std.proofs.Common.{◌≡◌, map, take}
use Rattle.serde_json.specs.View.{view}
use Rattle.traces.specs.Written.{package_data}
use Rattle.traces.proofs.writing.packages.Given as goal

abbrev pub invariant-loop-one : goal.invariant-loop-one
invariant-loop-one l = map view l.items.items ≡ map package_data (take l.one-index l.packages)
