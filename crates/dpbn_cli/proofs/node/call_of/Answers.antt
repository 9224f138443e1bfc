use Rattle.std.proofs.Common.{List, Some, codes}
use Rattle.clap.specs.Words.{Row, found_of, rows_of}
use Rattle.dpbn_cli.specs.inside.Naming.{RefusesBy}
use Rattle.dpbn_cli.proofs.Named.{err_by}
use Rattle.dpbn_cli.proofs.node.call_of.Goals as goal

pub returns-in_err-node-clause-kind : goal.returns-in_err-node-clause-kind
returns-in_err-node-clause-kind c =
    let rows : List Row = rows_of (found_of c.args.found.now) in
    err_by (RefusesBy (Some (codes "node", rows))) c.from_residual.result c.in_err-node.field-0.0 (λ names. c.in_err-node.ensures.kind names.1.0)
    c.from_residual.ensures.0 c.from_residual.ensures.1
