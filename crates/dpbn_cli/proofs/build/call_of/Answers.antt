use Rattle.std.proofs.Common.{List, Some, arith, codes, rules}
use Rattle.std.proofs.lemmas.Grind.{common_steps}
use Rattle.clap.specs.Words.{Row, found_of, rows_of}
use Rattle.dpbn_cli.specs.inside.Naming.{HasSite, RefusesBy}
use Rattle.dpbn_cli.proofs.Named.{err_by}
use Rattle.dpbn_cli.proofs.build.call_of.Goals as goal

pub returns-in_err-node-clause-kind : goal.returns-in_err-node-clause-kind
returns-in_err-node-clause-kind c =
    let rows : List Row = rows_of (found_of c.args.found.now) in
    err_by (RefusesBy (Some (codes "build", rows))) c.from_residual.result c.in_err-node.field-0.0 (λ names. c.in_err-node.ensures.kind names.1.0)
    c.from_residual.ensures.0 c.from_residual.ensures.1

pub returns-in_default-clause-kind : goal.returns-in_default-clause-kind
returns-in_default-clause-kind c =
    let rows : List Row = rows_of (found_of c.args.found.now) in
    let never : HasSite rows → ⊥ = first_of (search rules, grind (arith, common_steps)) in
    λ names. absurd (never names.0)
