use Rattle.std.proofs.Common.{sym, subst}
use Rattle.udp.specs.Notices.{IsRead, NoticesState}
use Rattle.udp.proofs.NoticeLemmas.{heard_more}
use Rattle.udp.proofs.notices.Notices.put.Goals as goal

pub invariant_of-self : goal.invariant_of-self
invariant_of-self c =
    rw (c.note.ensures, c.in-Ok.ensures.items) (heard_more c.self.inside.seal c.self.inside.heard.all c.args.bytes.now c.self.inside.listing
    c.self.inside.waiting.items c.args.notice
    (subst (λ (s : NoticesState). IsRead s c.args.bytes.now c.args.notice) (sym c.self.view_is) c.requires) c.self.invariant)
