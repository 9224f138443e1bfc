use Rattle.std.proofs.Common.{◌≡◌, true, None, Option, get_or, take, sym, ap, ◌∙◌}
use Rattle.std.specs.Option.{option_copied}
use Rattle.std.proofs.lemmas.List.{take_more}
use Rattle.std.proofs.lemmas.List.Elements.{All-get_or}
use Rattle.claims.specs.Votes.{Ballot, kept_report, report_of}
use Rattle.protocol.specs.State.{Value}
use Rattle.ways_on.specs.Rounds.{seen_at}
use Rattle.ways_on.specs.inside.Listed.{report_of_all}
use Rattle.ways_on.proofs.Seen.{told_is}
use Rattle.ways_on.proofs.Writing.{one_more_reports}
use Rattle.ways_on.proofs.survey.report.Goals as goal
use Rattle.world.specs.Happening.{is_up}

pub loop-node-preserved : goal.loop-node-preserved
loop-node-preserved c = λ u named.
    let w = c.args.world.now.world in
    let i = c.loop-node.node-index in
    let asked = c.args.asked.now in
    let k = get_or asked i 0 in
    let up = All-get_or (λ j. is_up w j ≡ true) asked i 0 c.loop-node-test.true c.requires in
    let told = told_is w c.args.path.now u k c.node.result.now.node named up c.node.ensures in
    let voted : report_of (option_copied c.voted.result) ≡ (seen_at w u k).voted =
    c.voted.ensures ∙ ap (λ f. f.voted) told in
    c.keep-kept.ensures
    ∙ ap (kept_report (report_of (option_copied c.loop-node.kept))) voted
    ∙ ap (λ (o : Option (Ballot Value)). kept_report o (seen_at w u k).voted)
    (c.loop-node.invariant u named)
    ∙ sym (one_more_reports w u None (take i asked) k)
    ∙ ap (report_of_all w u None) (sym (take_more asked i 0 c.loop-node-test.true))
