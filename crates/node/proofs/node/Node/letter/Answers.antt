use Rattle.std.proofs.Common.{subst}
use Rattle.engine.specs.State as engines
use Rattle.protocol.specs.State.{engine_of}
use Rattle.node.specs.State.{LoggedNode}
use Rattle.node.proofs.node.Node.letter.Goals as goal

pub returns-clause-letter : goal.returns-clause-letter
returns-clause-letter g c =
    subst (λ (n : LoggedNode g.row.D.Denot). engines.HasLetter (engine_of n.node.member) c.args.position c.letter.result) c.self.view_is c.letter.ensures.letter
