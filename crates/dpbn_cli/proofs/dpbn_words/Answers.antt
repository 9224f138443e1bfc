use Rattle.std.proofs.Common.{◌∙◌, IfOk, List, map, refl, subst, sym}
use Rattle.clap.specs.Words.{FailsBy, Text}
use Rattle.dpbn_cli.specs.Calls.{IsCallOf}
use Rattle.dpbn_cli.specs.declared.Call.TheVariants.{Release}
use Rattle.dpbn_cli.proofs.Released.{other_faults, other_matched, release_faultless, release_matched}
use Rattle.dpbn_cli.proofs.dpbn_words.Goals as goal

pub returns-then-asks_release-clause-call : goal.returns-then-asks_release-clause-call
returns-then-asks_release-clause-call g c =
    let words : List Text = map g.S.AsStr.text c.args.words.now in
    subst (λ m. IsCallOf m Release) (sym (release_matched words (sym c.asks_release.ensures ∙ c.if-asks_release.true))) refl

pub returns-then-asks_release-clause-faults : goal.returns-then-asks_release-clause-faults
returns-then-asks_release-clause-faults g c =
    let words : List Text = map g.S.AsStr.text c.args.words.now in
    release_faultless words (sym c.asks_release.ensures ∙ c.if-asks_release.true)

pub returns-else-asks_release-clause-call : goal.returns-else-asks_release-clause-call
returns-else-asks_release-clause-call g c =
    let words : List Text = map g.S.AsStr.text c.args.words.now in
    subst (λ m. IfOk c.parsed.result (IsCallOf m)) (sym (other_matched words (sym c.asks_release.ensures ∙ c.if-asks_release.false))) c.parsed.ensures.call

pub returns-else-asks_release-clause-faults : goal.returns-else-asks_release-clause-faults
returns-else-asks_release-clause-faults g c =
    let words : List Text = map g.S.AsStr.text c.args.words.now in
    subst (λ ks. FailsBy ks c.parsed.result) (sym (other_faults words (sym c.asks_release.ensures ∙ c.if-asks_release.false))) c.parsed.ensures.faults
