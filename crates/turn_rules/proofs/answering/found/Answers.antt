use Rattle.std.proofs.Common.{◌≡◌, false, map, subst, sym}
use Rattle.faults.specs.Bytes.{is_among}
use Rattle.listing.specs.Tree.{path_at}
use Rattle.turn_rules.proofs.GivenFiles.{some_lack}
use Rattle.turn_rules.proofs.answering.found.Goals as goal

pub returns-in_default : goal.returns-in_default
returns-in_default c =
    sym (some_lack c.args.builds.now (path_at c.args.tree.now) c.args.positions.now
    c.loop-position.position-index 0 c.loop-position-test.true
    (subst (λ t. is_among (map (λ g. g.0) c.args.builds.now) t ≡ false) c.path.ensures
    c.in_default.ensures))
