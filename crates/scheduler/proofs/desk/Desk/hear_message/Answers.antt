use Rattle.std.proofs.Common.{◌≡◌, ◌∙◌, Some, ap, sym}
use Rattle.engine.specs.Division.{number_found}
use Rattle.scheduler.proofs.KeptUnits.{hears_nay, hears_offer, hears_question}
use Rattle.scheduler.proofs.desk.Desk.hear_message.Goals as goal

pub returns-in-Ask-clause-heard : goal.returns-in-Ask-clause-heard
returns-in-Ask-clause-heard c =
    let s = c.args.member.now in
    let m = c.args.message.now in
    let found : number_found s.division m.path ≡ Some c.in-Some.unit =
    sym (c.in-Some.ensures ∙ ap (λ d. number_found d m.path) c.units.ensures.division) in
    hears_question s c.args.now m c.in-Some.unit c.args.self.now c.hear_question.new.self
    c.hear_question.result (number_found s.division m.path) found c.in-Ask.is
    c.hear_question.ensures.named c.hear_question.ensures.given_back
    c.hear_question.ensures.elsewhere

pub returns-in-Nay-clause-heard : goal.returns-in-Nay-clause-heard
returns-in-Nay-clause-heard c =
    let s = c.args.member.now in
    let m = c.args.message.now in
    let found : number_found s.division m.path ≡ Some c.in-Some.unit =
    sym (c.in-Some.ensures ∙ ap (λ d. number_found d m.path) c.units.ensures.division) in
    hears_nay s c.args.now m c.in-Some.unit c.args.self.now c.hear_nay.new.self
    c.hear_nay.result (number_found s.division m.path) c.in-Nay.refused c.in-Nay.claim
    found c.in-Nay.is c.hear_nay.ensures.named c.hear_nay.ensures.given_back
    c.hear_nay.ensures.elsewhere

pub returns-in-Offer-clause-heard : goal.returns-in-Offer-clause-heard
returns-in-Offer-clause-heard c =
    let s = c.args.member.now in
    let m = c.args.message.now in
    let found : number_found s.division m.path ≡ Some c.in-Some.unit =
    sym (c.in-Some.ensures ∙ ap (λ d. number_found d m.path) c.units.ensures.division) in
    hears_offer s c.args.now m c.in-Some.unit c.args.self.now c.hear_offer.new.self
    c.hear_offer.result (number_found s.division m.path) c.in-Offer.claim found c.in-Offer.is
    c.hear_offer.ensures.elsewhere c.hear_offer.ensures.named
