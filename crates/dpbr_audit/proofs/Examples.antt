-- Verdicts as they are printed.
use Rattle.std.proofs.Common.{◌≡◌, ◌++◌, codes, refl, [], ◌∷◌}
use Rattle.std.specs.Fmt.{decimal}
use Rattle.auditing.specs.declared.verdict.Reason.TheVariants.{DependencyNotEarlier}
use Rattle.auditing.specs.declared.verdict.Verdict.TheVariants.{Yes, No}
use Rattle.faults.specs.Bytes.{line_feed}
use Rattle.dpbr_audit.specs.Audit.{verdict_line}

example_yes : verdict_line Yes ≡ codes "yes" ++ line_feed ∷ []
example_yes = refl

example_no : verdict_line (No 1 DependencyNotEarlier) ≡ codes "no: package " ++ decimal 1 ++ codes ": " ++ codes "dependency not earlier" ++ line_feed ∷ []
example_no = refl
