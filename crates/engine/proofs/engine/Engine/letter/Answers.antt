use Rattle.std.proofs.Common.{◌<◌, length, subst, sym}
use Rattle.engine.specs.State.{HasLetter, IsEngine, State}
use Rattle.engine.proofs.Reading.{has_letter, is_engine}
use Rattle.engine.proofs.engine.Engine.letter.Goals as goal

pub returns-clause-letter : goal.returns-clause-letter
returns-clause-letter c =
    let within = subst (λ (s : State). c.args.position < length s.tree) (sym c.self.view_is) c.requires in
    subst (λ (s : State). HasLetter s c.args.position c.at.result) c.self.view_is (rw c.at.ensures (has_letter c.self.invariant.1 c.args.position within))

pub returns-clause-engine : goal.returns-clause-engine
returns-clause-engine c = subst IsEngine c.self.view_is (is_engine c.self.invariant.1)
