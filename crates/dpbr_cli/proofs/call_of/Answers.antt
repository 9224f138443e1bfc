use Rattle.std.proofs.Common.{◌≡◌, List, Some, arith, codes, rules}
use Rattle.std.proofs.lemmas.Grind.{common_steps}
use Rattle.clap.specs.Words.{IsAmong, Row, found_of, rows_of, subcommand_rows_of}
use Rattle.clap.specs.declared.error.kind.ErrorKind.TheVariants.{MissingSubcommand}
use Rattle.dpbr_cli.specs.Calls.{call_fault}
use Rattle.dpbr_cli.proofs.Named.{HasCallName, has_call_name, made, refused}
use Rattle.dpbr_cli.proofs.call_of.Goals as goal

pub returns-in-Some-status-default-clause-kind : goal.returns-in-Some-status-default-clause-kind
returns-in-Some-status-default-clause-kind c =
    let rows : List Row = rows_of (found_of c.in-Some-status-default.found.now) in
    let is : subcommand_rows_of c.args.matches.now ≡ Some (codes "status", rows) = search rules in
    made c.ok_or.result (subcommand_rows_of c.args.matches.now) (codes "status", rows) is (search rules)

pub returns-in-Some-audit-default-clause-kind : goal.returns-in-Some-audit-default-clause-kind
returns-in-Some-audit-default-clause-kind c =
    let rows : List Row = rows_of (found_of c.in-Some-audit-default.found.now) in
    let is : subcommand_rows_of c.args.matches.now ≡ Some (codes "audit", rows) = search rules in
    made c.ok_or-in-Some-audit-default.result (subcommand_rows_of c.args.matches.now) (codes "audit", rows) is (search rules)

pub returns-in-Some-run-default-clause-kind : goal.returns-in-Some-run-default-clause-kind
returns-in-Some-run-default-clause-kind c =
    let rows : List Row = rows_of (found_of c.in-Some-run-default.found.now) in
    let is : subcommand_rows_of c.args.matches.now ≡ Some (codes "run", rows) = search rules in
    made c.ok_or-in-Some-run-default.result (subcommand_rows_of c.args.matches.now) (codes "run", rows) is (search rules)

pub returns-in-Some-wayon-default-clause-kind : goal.returns-in-Some-wayon-default-clause-kind
returns-in-Some-wayon-default-clause-kind c =
    let rows : List Row = rows_of (found_of c.in-Some-wayon-default.found.now) in
    let is : subcommand_rows_of c.args.matches.now ≡ Some (codes "wayon", rows) = search rules in
    made c.ok_or-in-Some-wayon-default.result (subcommand_rows_of c.args.matches.now) (codes "wayon", rows) is (search rules)

pub returns-in-Some-explain-default-clause-kind : goal.returns-in-Some-explain-default-clause-kind
returns-in-Some-explain-default-clause-kind c =
    let rows : List Row = rows_of (found_of c.in-Some-explain-default.found.now) in
    let is : subcommand_rows_of c.args.matches.now ≡ Some (codes "explain", rows) = search rules in
    refused c.call_of-in-Some-explain-default.result (subcommand_rows_of c.args.matches.now) (codes "explain", rows) is
    c.call_of-in-Some-explain-default.ensures.kind

pub returns-in_default-clause-kind : goal.returns-in_default-clause-kind
returns-in_default-clause-kind c =
    let never : HasCallName (subcommand_rows_of c.args.matches.now) → IsAmong MissingSubcommand (call_fault (subcommand_rows_of c.args.matches.now)) =
    first_of (search rules, grind (arith, common_steps)) in
    λ names. never (has_call_name (subcommand_rows_of c.args.matches.now) names)
