use Rattle.std.proofs.Common.{◌≡◌, ◌++◌, refl, subst}
use Rattle.world.specs.Headline.{HoldAlike}
use Rattle.world.specs.World.{World, start}
use Rattle.check_worlds.proofs.laws.never_differ.Goals as goal

pub returns : goal.returns
returns c division weights early late v w made first second =
    let led = c.events_in_parts.ensures.together (start division weights) v w early late first second in
    let there = c.worlds_have_one_list.ensures.alike division weights (early ++ late) w made led early late refl in
    let same : there.0 ≡ v = c.events_have_one_answer.ensures.run division weights early there.0 v made there.1 first in
    subst (λ (u : World). HoldAlike u w) same there.3
