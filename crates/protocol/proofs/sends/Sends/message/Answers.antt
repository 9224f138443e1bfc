use Rattle.std.proofs.Common.{◌≡◌, sym, ap, ◌∙◌}
use Rattle.protocol.specs.Sends.{receivers_of, sent_to}
use Rattle.protocol.proofs.Receivers.{none_sent, receivers_again}
use Rattle.protocol.proofs.sends.Sends.message.Goals as goal

pub returns-clause-sent : goal.returns-clause-sent
returns-clause-sent c =
    let message = c.self.inside.message in
    let same : c.self.inside.receivers.items ≡ receivers_of c.args.self.now =
    sym (receivers_again message c.self.inside.receivers.items c.self.invariant.0)
    ∙ ap receivers_of c.self.view_is in
    sym c.self.view_is
    ∙ (ap (sent_to message) same
    ∙ ap (λ m. sent_to m (receivers_of c.args.self.now)) (sym c.as_ref.ensures.value))
