use Rattle.std.proofs.Common.{◌∙◌}
use Rattle.node.specs.Parcels.{texts_in}
use Rattle.dpbr_run.proofs.EventLines.{sent_so}
use Rattle.dpbr_run.proofs.lines.datagrams_text.Goals as goal

pub returns : goal.returns
returns c = record {
  receivers = c.parts.result.0.now;
  datagrams = texts_in c.parts.result.1.now;
  all_to_each = c.parts.ensures;
  text_is = sent_so c.args.world.now.world.sent c.args.kind c.as_str.result.now c.parts.result.0.now c.parts.result.1.now
      c.new-text.result.items c.put_datagrams.new.text.items c.new-text.ensures.items (c.as_str.ensures.value ∙ c.in_ok-members.ensures)
      c.in_ok-put_datagrams.ensures;
}
