use Rattle.std.proofs.Common.{◌≡◌, ◌++◌, map, take}
use Rattle.std.specs.List.{All}
use Rattle.claims.specs.PkgPath.{IsPath}
use Rattle.package_record.specs.Content.{ended, run_line}
use Rattle.package_record.proofs.writing.put_run.Given as goal

abbrev pub invariant-loop-path : goal.invariant-loop-path
invariant-loop-path l = record {
  text : l.out.items ≡ l.initial.out.items ++ ended (map run_line (take l.path-index l.paths));
  names : All IsPath (take l.path-index l.paths);
}
