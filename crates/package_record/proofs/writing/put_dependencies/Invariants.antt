use Rattle.std.proofs.Common.{◌≡◌, ◌++◌, map, take}
use Rattle.std.specs.List.{All}
use Rattle.package_record.specs.Content.{IsDep, built_line, ended}
use Rattle.package_record.proofs.writing.put_dependencies.Given as goal

abbrev pub invariant-loop-dep : goal.invariant-loop-dep
invariant-loop-dep l = record {
  text : l.out.items ≡ l.initial.out.items ++ ended (map built_line (take l.dep-index l.deps));
  names : All IsDep (take l.dep-index l.deps);
}
