use Rattle.std.proofs.Common.{◌∙◌, ◌++◌, ◌∷◌, [], ap, codes, flat_map}
use Rattle.std.specs.Fmt.{decimal}
use Rattle.faults.specs.Bytes.{Text, line_feed}
use Rattle.dpbr_run.specs.Events.{agreed_part, noted_part}
use Rattle.dpbr_run.proofs.EventLines.{five_appended}
use Rattle.dpbr_run.proofs.lines.put_line.Goals as goal

pub returns : goal.returns
returns c =
    let old : Text = c.args.text.now.items in
    let front : Text = codes "event " ++ decimal c.args.number ++ codes " node " ++ decimal c.args.node in
    five_appended old front (noted_part c.args.noted) c.args.sent.now (flat_map agreed_part c.args.packages.now) (line_feed ∷ [])
    c.extend_from_slice.new.self.items c.put_noted.new.text.items c.extend_from_slice-2.new.self.items c.put_agreed.new.text.items c.push.new.self.items
    (c.in_ok-extend_from_slice.ensures.items ∙ ap (λ (t : Text). old ++ t) (c.as_bytes.ensures.value ∙ c.in_ok-front.ensures))
    c.in_ok-put_noted.ensures c.in_ok-extend_from_slice-2.ensures.items c.in_ok-put_agreed.ensures c.in_ok-push.ensures.items
