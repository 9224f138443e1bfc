use Rattle.std.proofs.Common.{◌∙◌, None, Some, ap}
use Rattle.ballots.specs.declared.message.Body.TheVariants.{Agreed}
use Rattle.protocol.specs.Answers.{message_of, others}
use Rattle.protocol.specs.Sends.{sent_to}
use Rattle.member.specs.declared.step.ClaimChange.TheVariants.{Counts}
use Rattle.member.proofs.member.Member.holding.Goals as goal

pub returns : goal.returns
returns c =
    let s = c.args.self.now in
    let to = c.others.ensures ∙ ap others c.self.view_is in
    let sends = c.in_ok-sends.ensures
    ∙ ap (sent_to (Some (message_of s c.args.unit (Agreed c.args.sent)))) to in
    λ change i. record {
      note = Some (c.in_ok-note.ensures.note i);
      sends = sends i;
      job = None;
      change = Counts change;
    }
