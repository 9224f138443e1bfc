-- Words that clap accepts are a call.
use Rattle.std.proofs.Common.{◌≡◌, List, [], refl, subst, sym}
use Rattle.clap.specs.Simple.{argument_words, built}
use Rattle.clap.specs.Words.{Text, fault_of, subcommand_of}
use Rattle.dpbr_cli.proofs.Entering.{enters_one}
use Rattle.dpbr_cli.proofs.Matched.{call_there}
use Rattle.dpbr_cli.specs.Calls.{dpbr_app}
use Rattle.dpbr_cli.specs.declared.call_table.TheConstants.{CALLS}
use Rattle.dpbr_cli.specs.inside.Naming.{NamesCall}

pub taken_names_call : (words : List Text) → fault_of dpbr_app words ≡ [] → NamesCall (subcommand_of dpbr_app words)
unfolding dpbr_app
taken_names_call words none =
    let e = enters_one (built dpbr_app) (argument_words dpbr_app words) refl none in
    subst NamesCall (sym e.enters)
    (call_there (λ text. text.now) (λ rows. rows.now) (λ lists. lists.now) CALLS e.name e.shape e.rest refl e.found e.no_help e.faultless)
