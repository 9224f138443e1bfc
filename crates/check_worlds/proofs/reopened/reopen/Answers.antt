use Rattle.std.proofs.Common.{Ok, subst}
use Rattle.node.specs.Calls.{IsOpenFault, OpensAsOne}
use Rattle.node.specs.OnLog.{identity_of, texts_of}
use Rattle.stable_record.specs.History.{seen}
use Rattle.stable_record.specs.Opening.{Opens}
use Rattle.check_worlds.proofs.Reopening.{at_any_ok, at_err, at_ok, if_opened, if_refused, not_refused, opened_again}
use Rattle.check_worlds.proofs.reopened.reopen.Goals as goal

pub returns : goal.returns
returns g c =
    let h = g.D.Disk.history in
    let old = c.args.node in
    let is = c.log_len-len.ensures.node.node in
    let tree = c.args.tree.now in
    let weights = c.args.weights.now in
    let me = c.args.me in
    let same = c.into_disk.ensures in
    record {
      opened = if_opened c.open.result _ _ _ (OpensAsOne tree weights me) (λ n opened opens one kept on own.
          opened_again h old on is tree weights me own n.node one opened
          (subst (λ d. Opens (identity_of n.node.member) (seen (h d)) (Ok (texts_of n.node.notes))) same (opens kept)))
          c.open.ensures.node c.open.ensures.notes (at_any_ok c.open.result _ _ c.open.ensures.one_node);
      on_log = c.open.ensures.on_log;
      kept = if_opened c.open.result _ _ _ (OpensAsOne tree weights me) (λ n opened stays one kept. subst g.D.Disk.is_kept same (stays kept))
          c.open.ensures.node (at_ok c.open.result _ _ c.open.ensures.kept) (at_any_ok c.open.result _ _ c.open.ensures.one_node);
      refused = if_refused c.open.result _ _ _ (λ e cause one kept on own.
          not_refused h old on is tree weights me own e.0 one (subst (λ d. IsOpenFault tree weights me (seen (h d)) e.0) same (cause kept)))
          c.open.ensures.refused (at_err c.open.result _ _ c.open.ensures.one_node);
    }
