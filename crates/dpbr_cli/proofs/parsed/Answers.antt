use Rattle.std.proofs.Common.{List, map}
use Rattle.clap.specs.Words.{Text, subcommand_rows_of}
use Rattle.clap.proofs.KindLemmas.{fails_by_from}
use Rattle.dpbr_cli.specs.Calls.{parse_faults}
use Rattle.dpbr_cli.proofs.Refused.{by_call, by_clap, nothing_left}
use Rattle.dpbr_cli.proofs.parsed.Goals as goal

pub returns-in_err-matches-clause-faults : goal.returns-in_err-matches-clause-faults
returns-in_err-matches-clause-faults g c =
    let words : List Text = map g.S.AsStr.text c.args.words.now in
    fails_by_from (parse_faults words) c.from_residual.result c.in_err-matches.field-0.0
    (by_clap words c.in_err-matches.field-0.0 c.in_err-matches.ensures.faults) c.from_residual.ensures.0 c.from_residual.ensures.1

pub returns-in-Ok-clause-faults : goal.returns-in-Ok-clause-faults
returns-in-Ok-clause-faults g c =
    let words : List Text = map g.S.AsStr.text c.args.words.now in
    nothing_left words (subcommand_rows_of c.in_ok-matches.matches) c.in_ok-matches.ensures.faults c.in_ok-matches.ensures.matched
    c.in-Ok.ensures.sound

pub returns-clause-faults : goal.returns-clause-faults
returns-clause-faults g c =
    let words : List Text = map g.S.AsStr.text c.args.words.now in
    by_call words (subcommand_rows_of c.in_ok-matches.matches) c.in_ok-matches.ensures.faults c.in_ok-matches.ensures.matched
    c.in_ok-refusal-in-Err.field-0 c.in-Err.kind c.in_ok-refusal-in-Err.ensures c.in-Err.ensures.kind
