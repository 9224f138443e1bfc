use Rattle.std.proofs.Common.{◌≡◌, map, subst}
use Rattle.auditing.specs.Allowed.{IsAllowed}
use Rattle.listing.specs.Tree.{Tree}
use Rattle.world.specs.Headline.{AreRecords, AuditSaysYes, entry_of}
use Rattle.check_worlds.proofs.Knowing.{at_end}
use Rattle.check_worlds.proofs.laws.printed_runs_are_allowed.Goals as goal

pub returns : goal.returns
returns g rules listing trace text is =
    let w = is.run.history.world in
    let led = is.run.is_history.led in
    let records : AreRecords w = at_end w.division w.weights _ w AreRecords
    (g.worlds_have_one_list.ensures.records w.division w.weights _ w is.run.is_history.made led) in
    let allowed : AuditSaysYes w = at_end w.division w.weights _ w AuditSaysYes
    (g.worlds_have_one_list.ensures.allowed w.division w.weights _ w is.run.is_history.made led) in (
      map entry_of w.agreed,
      g.printed_lists_are_read.ensures w.agreed records,
      subst (λ (t : Tree). IsAllowed t (map entry_of w.agreed)) is.run.of_tree allowed,
    )
