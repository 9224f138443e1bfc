use Rattle.std.proofs.Common.{List, ℕ, Ok, sym, ap, ◌∙◌}
use Rattle.package_record.specs.Build.{build_text}
use Rattle.package_record.proofs.BuildsTaken.{first_build_taken}
use Rattle.package_record.proofs.Whole.{front_cut}
use Rattle.package_record.proofs.build.Build.read_first.Goals as goal

pub of-requires : goal.of-requires
of-requires c = (first_build_taken c.args.text.now (c.in_ok-records.records.items, c.in_ok-records.rest.now) c.in_ok-records.ensures).0

pub returns-clause-text : goal.returns-clause-text
returns-clause-text c =
    let cs = c.in_ok-records.records.items in
    let read = first_build_taken c.args.text.now (cs, c.in_ok-records.rest.now) c.in_ok-records.ensures in
    let cut = front_cut c.args.text.now (build_text cs) c.in_ok-records.rest.now _ read.1 c.saturating_sub-length.ensures in
    rw c.in_ok-build.ensures (read.0, cut.1)

pub returns-clause-length : goal.returns-clause-length
returns-clause-length c =
    let cs = c.in_ok-records.records.items in
    let read = first_build_taken c.args.text.now (cs, c.in_ok-records.rest.now) c.in_ok-records.ensures in
    rw c.in_ok-build.ensures (front_cut c.args.text.now (build_text cs) c.in_ok-records.rest.now _ read.1 c.saturating_sub-length.ensures).0

pub returns-clause-exact : goal.returns-clause-exact
returns-clause-exact c =
    let cs = c.in_ok-records.records.items in
    let read = first_build_taken c.args.text.now (cs, c.in_ok-records.rest.now) c.in_ok-records.ensures in
    let behind = (front_cut c.args.text.now (build_text cs) c.in_ok-records.rest.now _ read.1 c.saturating_sub-length.ensures).2 in
    rw c.in_ok-build.ensures (c.in_ok-records.ensures ∙ ap (λ (t : List ℕ). Ok (cs, t)) (sym behind))
