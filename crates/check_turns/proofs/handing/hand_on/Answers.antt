use Rattle.std.proofs.Common.{◌∙◌, ap, subst}
use Rattle.node.specs.State.{LoggedNode}
use Rattle.check_turns.proofs.Handed.{hears_first, puts}
use Rattle.check_turns.specs.Handed.{HearsTheFirst}
use Rattle.check_turns.proofs.handing.hand_on.Goals as goal

pub returns : goal.returns
returns g c =
    let fresh = c.new-second.ensures in
    let port = fresh.port ∙ c.into_parts-node.ensures.port in
    record {
      between = c.turn-one.new.self;
      sends = puts g.D.Disk c.args.builds.now
          c.args.first c.turn-one.new.self c.turn-one.result c.turn-one.ensures;
      after = c.turn-other.new.self;
      hears = subst (λ s. HearsTheFirst s c.turn-other.new.self c.turn-other.result)
          (λ i. record { node = fresh.node i; pending = fresh.pending i; port = port i })
          (hears_first g.E.Disk c.args.builds.now c.new-second.result c.turn-other.new.self
          (ap (λ (n : LoggedNode _). n.node.member.claim) fresh.node ∙ c.requires.no_claim)
          (ap (λ (n : LoggedNode _). n.node.stopped) fresh.node ∙ c.requires.runs)
          c.turn-other.result c.turn-other.ensures);
    }
