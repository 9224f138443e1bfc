use Rattle.std.proofs.Common.{◌≡◌, ◌∙◌, ap, false, subst, sym}
use Rattle.faults.specs.Bytes.{Text}
use Rattle.udp.specs.Inbox.{InboxState, came_as}
use Rattle.udp.specs.Notices.{is_notice}
use Rattle.udp.proofs.InboxLemmas.{plain_or_not, put_or_not}
use Rattle.udp.proofs.NoticeTexts.{plain_text}
use Rattle.udp.proofs.inbox.Inbox.take.Goals as goal

pub invariant_of-self : goal.invariant_of-self
invariant_of-self c =
    let put = c.put-is_put.ensures in
    let is : c.args.bytes.now ≡ came_as c.self.inside.seal c.in-Some.text.now =
    c.in-Some.ensures ∙ ap (λ (s : InboxState). came_as s.key c.in-Some.text.now) (sym c.self.view_is) in
    record {
      vouched = rw c.note.ensures (put_or_not c.self.inside.seal c.self.inside.heard.all
          c.self.inside.come.waiting.items c.put-is_put.new.self.waiting.items c.args.bytes.now
          c.in-Some.text.now c.args.node c.put-is_put.result put.put put.full put.err is c.self.invariant.vouched);
      plain = plain_or_not c.self.inside.come.waiting.items c.put-is_put.new.self.waiting.items
          c.in-Some.text.now c.args.node c.put-is_put.result put.put put.full put.err
          (plain_text c.self.inside.seal c.in-Some.text.now
          (subst (λ (bytes : Text). is_notice bytes ≡ false) is c.requires.plain)) c.self.invariant.plain;
    }
