use Rattle.std.proofs.Common.{◌∙◌, ap, length, sym}
use Rattle.std.specs.Prelude.{option_map}
use Rattle.laws.proofs.HeardTurns.{goes_so}
use Rattle.laws.specs.Recorded.{offered_to}
use Rattle.laws.specs.declared.recorded.Recorded.{Recorded}
use Rattle.lone_node.specs.Handed.{AllBuilds}
use Rattle.laws.proofs.heard.turn_if_heard.Goals as goal

pub returns-then-is_heard : goal.returns-then-is_heard
returns-then-is_heard g c = λ tree weights first h k so_far alone.
    let turned = rw (c.in-Ok.is, c.port.ensures.value) at c.turn.ensures in
    let heard = rw c.port-2.ensures.value at c.is_heard.ensures c.if-is_heard.true in
    let counted = sym c.in-Some.is ∙ c.count.ensures
    ∙ ap (λ (p : Recorded _). option_map length (offered_to p)) c.port.ensures.value in
    rw c.port-2.ensures.value
    (goes_so g.D.Disk g.P.Port
    (AllBuilds c.args.builds.now) c.args.solo.now c.turn.new.self tree weights first h k so_far
    alone c.in-Some.before counted c.in-Ok.done turned heard)
