use Rattle.std.proofs.Common.{◌≡◌, ◌++◌, map, take}
use Rattle.package_record.specs.Content.{built_line, ended}
use Rattle.job_folder.proofs.text.put_signatures.Given as goal

abbrev pub invariant-loop-signature : goal.invariant-loop-signature
invariant-loop-signature l =
    l.out.items ≡ l.initial.out.items ++ ended (map built_line (take l.signature-index l.signatures))
