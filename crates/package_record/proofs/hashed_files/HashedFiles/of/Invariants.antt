use Rattle.std.proofs.Common.{◌≡◌, map}
use Rattle.package_record.specs.FileView.{file_view}
use Rattle.package_record.proofs.hashed_files.HashedFiles.of.Given as goal

abbrev pub invariant-loop-file : goal.invariant-loop-file
invariant-loop-file l = l.hashed ≡ map file_view l.yielded
