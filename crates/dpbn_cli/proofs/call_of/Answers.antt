use Rattle.std.proofs.Common.{◌≡◌, List, Some, arith, codes, rules}
use Rattle.std.proofs.lemmas.Grind.{common_steps}
use Rattle.clap.specs.Words.{IsAmong, Row, found_of, rows_of, subcommand_rows_of}
use Rattle.clap.specs.declared.error.kind.ErrorKind.TheVariants.{MissingSubcommand}
use Rattle.dpbn_cli.specs.Calls.{call_fault}
use Rattle.dpbn_cli.proofs.Named.{HasCallName, has_call_name, made, refused}
use Rattle.dpbn_cli.proofs.call_of.Goals as goal

pub returns-in-Some-cluster-default-clause-kind : goal.returns-in-Some-cluster-default-clause-kind
returns-in-Some-cluster-default-clause-kind c =
    let rows : List Row = rows_of (found_of c.in-Some-cluster-default.found.now) in
    let is : subcommand_rows_of c.args.matches.now ≡ Some (codes "cluster", rows) = search rules in
    made c.ok_or.result (subcommand_rows_of c.args.matches.now) (codes "cluster", rows) is (search rules)

pub returns-in-Some-node-default-clause-kind : goal.returns-in-Some-node-default-clause-kind
returns-in-Some-node-default-clause-kind c =
    let rows : List Row = rows_of (found_of c.in-Some-node-default.found.now) in
    let is : subcommand_rows_of c.args.matches.now ≡ Some (codes "node", rows) = search rules in
    refused c.call_of-in-Some-node-default.result (subcommand_rows_of c.args.matches.now) (codes "node", rows) is c.call_of-in-Some-node-default.ensures.kind

pub returns-in-Some-build-default-clause-kind : goal.returns-in-Some-build-default-clause-kind
returns-in-Some-build-default-clause-kind c =
    let rows : List Row = rows_of (found_of c.in-Some-build-default.found.now) in
    let is : subcommand_rows_of c.args.matches.now ≡ Some (codes "build", rows) = search rules in
    refused c.call_of-in-Some-build-default.result (subcommand_rows_of c.args.matches.now) (codes "build", rows) is c.call_of-in-Some-build-default.ensures.kind

pub returns-in-Some-key-default-clause-kind : goal.returns-in-Some-key-default-clause-kind
returns-in-Some-key-default-clause-kind c =
    let rows : List Row = rows_of (found_of c.in-Some-key-default.found.now) in
    let is : subcommand_rows_of c.args.matches.now ≡ Some (codes "key", rows) = search rules in
    made c.ok_or-in-Some-key-default.result (subcommand_rows_of c.args.matches.now) (codes "key", rows) is (search rules)

pub returns-in-Some-explain-default-clause-kind : goal.returns-in-Some-explain-default-clause-kind
returns-in-Some-explain-default-clause-kind c =
    let rows : List Row = rows_of (found_of c.in-Some-explain-default.found.now) in
    let is : subcommand_rows_of c.args.matches.now ≡ Some (codes "explain", rows) = search rules in
    refused c.call_of-in-Some-explain-default.result (subcommand_rows_of c.args.matches.now) (codes "explain", rows) is c.call_of-in-Some-explain-default.ensures.kind

pub returns-in_default-clause-kind : goal.returns-in_default-clause-kind
returns-in_default-clause-kind c =
    let never : HasCallName (subcommand_rows_of c.args.matches.now) → IsAmong MissingSubcommand (call_fault (subcommand_rows_of c.args.matches.now)) =
    first_of (search rules, grind (arith, common_steps)) in
    λ names. never (has_call_name (subcommand_rows_of c.args.matches.now) names)
