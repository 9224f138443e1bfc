use Rattle.std.proofs.Common.{◌≡◌, ◌++◌, map, take}
use Rattle.package_record.specs.Content.{ended}
use Rattle.job_folder.specs.Tasks.{package_line}
use Rattle.job_folder.proofs.text.put_packages.Given as goal

abbrev pub invariant-loop-path : goal.invariant-loop-path
invariant-loop-path l = l.out.items ≡ l.initial.out.items ++ ended (map package_line (take l.path-index l.paths))
