use Rattle.std.proofs.Common.{◌≡◌, All, take, drop}
use Rattle.faults.specs.Answers.{first_given}
use Rattle.package_record.specs.Content.{AreFileNames, names_of}
use Rattle.package_record.specs.Making.{names_fault}
use Rattle.package_record.specs.declared.build.Package.{Package}
use Rattle.package_record.proofs.gathering.test_all_names.Given as goal

abbrev pub invariant-loop-package : goal.invariant-loop-package
invariant-loop-package l = record {
  names : All (λ (p : Package). AreFileNames (names_of p.files)) (take l.package-index l.packages);
  first : first_given (λ (p : Package). names_fault (names_of p.files)) l.packages ≡ first_given (λ (p : Package). names_fault (names_of p.files)) (drop l.package-index l.packages);
}
