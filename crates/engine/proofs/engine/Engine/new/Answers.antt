use Rattle.std.proofs.Common.{◌∙◌}
use Rattle.engine.specs.shared.Agreed.{held_marks}
use Rattle.engine.proofs.Marked.{marked_set-none}
use Rattle.engine.proofs.Reading.{held_mark}
use Rattle.engine.proofs.engine.Engine.new.Goals as goal

pub returns : goal.returns
returns c =
    let letters = c.in_ok-parts.parts.0.1 in
    λ i. record {
      tree = c.in_ok-units.ensures i;
      agreed = marked_set-none (held_marks letters) (λ p. held_mark letters p ∙ c.in_ok-parts.ensures.none_held p) i;
    }
