use Rattle.std.proofs.Common.{◌≡◌, ◌∙◌, Some, ap, sym, subst}
use Rattle.udp.specs.Inbox.{came_as}
use Rattle.udp.specs.Notices.{IsNoticeOf, NoticesState, notice_text}
use Rattle.udp.specs.declared.notice.Listing.{Listing}
use Rattle.udp.proofs.notices.Notices.read.Goals as goal

pub returns-in_default-listing-clause-lost : goal.returns-in_default-listing-clause-lost
returns-in_default-listing-clause-lost c = λ lost.
    (c.in-Some.text.now, c.in-Some.ensures.exact ∙ ap (λ (s : NoticesState). came_as s.key c.in-Some.text.now) c.self.view_is)

pub returns-in-None-clause-exact : goal.returns-in-None-clause-exact
returns-in-None-clause-exact c = λ notice is.
    let same : c.self.inside.listing ≡ Some is.0 = ap (λ (s : NoticesState). s.listing) c.self.view_is ∙ is.1 in
    let listing : c.in-Some-listing.listing ≡ is.0 =
    let both : Some c.in-Some-listing.listing ≡ Some is.0 = sym c.in-Some-listing.is ∙ same in cc in
    let text : c.in-Some.text.now ≡ notice_text is.0.digest notice =
    c.in-Some.ensures.back (notice_text is.0.digest notice)
    (is.2 ∙ ap (λ (s : NoticesState). came_as s.key (notice_text is.0.digest notice)) (sym c.self.view_is)) in
    c.in-None.ensures notice (subst (λ (l : Listing). IsNoticeOf l c.in-Some.text.now notice) (sym listing) (text, is.3))
