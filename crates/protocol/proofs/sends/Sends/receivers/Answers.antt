use Rattle.std.proofs.Common.{sym, ap, ◌∙◌}
use Rattle.protocol.specs.Sends.{receivers_of}
use Rattle.protocol.proofs.Receivers.{receivers_again}
use Rattle.protocol.proofs.sends.Sends.receivers.Goals as goal

pub returns : goal.returns
returns c =
    c.as_slice.ensures.value
    ∙ (sym (receivers_again c.self.inside.message c.self.inside.receivers.items
    c.self.invariant.0)
    ∙ ap receivers_of c.self.view_is)
