use Rattle.std.proofs.Common.{◌≡◌, List, sym, subst}
use Rattle.package_record.specs.Build.{IsBuild, build_text}
use Rattle.package_record.specs.Content.{Content}
use Rattle.package_record.proofs.BuildsTaken.{whole_build_taken}
use Rattle.package_record.proofs.build.Build.parse.Goals as goal

pub of-requires : goal.of-requires
of-requires c = (whole_build_taken c.args.text.now c.in_ok-records.records.items c.in_ok-records.ensures).0

pub returns-clause-text : goal.returns-clause-text
returns-clause-text c =
    subst (λ (cs : List Content). IsBuild cs × (c.args.text.now ≡ build_text cs)) (sym c.in_ok-of.ensures)
    (whole_build_taken c.args.text.now c.in_ok-records.records.items c.in_ok-records.ensures)
