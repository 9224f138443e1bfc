-- What clap says of the command holds of the program, which is simple, and whose arguments have no
-- rules about each other.
use Rattle.std.proofs.Common.{◌≡◌, ◌∙◌, ap, map, refl, subst, true, List}
use Rattle.std.proofs.lemmas.Result.{IfOk-weaker}
use Rattle.clap.specs.Words.{App, FailsBy, Text, fault_of, is_simple, is_simple_and_free, subcommand_of}
use Rattle.dpbr_cli.specs.Calls.{dpbr_app}
use Rattle.dpbr_cli.proofs.matches_of.Goals as goal

dpbr_is_simple : is_simple dpbr_app ≡ true
unfolding dpbr_app
dpbr_is_simple = refl

dpbr_is_free : is_simple_and_free dpbr_app ≡ true
unfolding dpbr_app
dpbr_is_free = refl

pub returns-clause-matched : goal.returns-clause-matched
returns-clause-matched g c =
    let same = c.in_ok-command.ensures in
    let words : List Text = map g.S.AsStr.text c.args.words.now in
    IfOk-weaker c.try_get_matches_from.result _ _
    (λ m h. (h (ap is_simple same ∙ dpbr_is_simple)).1 ∙ ap (λ (a : App). subcommand_of a words) same)
    c.try_get_matches_from.ensures.matches

pub returns-clause-faults : goal.returns-clause-faults
returns-clause-faults g c =
    let same = c.in_ok-command.ensures in
    let words : List Text = map g.S.AsStr.text c.args.words.now in
    subst (λ (a : App). FailsBy (fault_of a words) c.try_get_matches_from.result) same
    (c.try_get_matches_from.ensures.kinds (ap is_simple_and_free same ∙ dpbr_is_free))
