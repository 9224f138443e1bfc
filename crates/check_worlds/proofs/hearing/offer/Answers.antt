use Rattle.std.proofs.Common.{◌∙◌}
use Rattle.check_worlds.proofs.Offers.{promised_then}
use Rattle.check_worlds.proofs.hearing.offer.Goals as goal

pub returns : goal.returns
returns g c =
    c.promised.ensures
    ∙ promised_then c.args.node.now.node c.deliver.new.node.node c.log_len-len.ensures.node.node c.args.message.now c.args.claim c.requires.offer c.in_ok-out.out c.in_ok-out.ensures
    c.steps_are_the_members.ensures c.members_follow_the_theory.ensures.messages
