use Rattle.std.proofs.Common.{◌∙◌, ap, refl, sym}
use Rattle.cluster_turns.proofs.Asking.{came_told}
use Rattle.turn_rules.specs.Calls.{came_by}
use Rattle.datagram_ports.specs.Calls.{told}
use Rattle.cluster_turns.proofs.chosen.received.Goals as goal

pub returns-in-Ok-clause-calls : goal.returns-in-Ok-clause-calls
returns-in-Ok-clause-calls g c = (
  told c.receive.result,
  came_told c.in-Ok.came ∙ ap (λ r. came_by (told r)) (sym c.in-Ok.is),
  (c.receive.new.self, c.receive.ensures.does, refl),
)

pub returns-in-Err-clause-calls : goal.returns-in-Err-clause-calls
returns-in-Err-clause-calls g c = (
  told c.receive.result,
  ap (λ r. came_by (told r)) (sym c.in-Err.is),
  (c.receive.new.self, c.receive.ensures.does, refl),
)
