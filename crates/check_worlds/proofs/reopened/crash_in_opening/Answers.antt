use Rattle.std.proofs.Common.{◌≡◌, ◌∙◌, Ok, ap, subst, sym}
use Rattle.node.specs.OnLog.{identity, identity_of, texts_of}
use Rattle.stable_record.specs.Crash.{AllAlong}
use Rattle.stable_record.specs.Failing.{history_of}
use Rattle.stable_record.specs.History.{History, seen}
use Rattle.stable_record.specs.InMemory.{mem_history}
use Rattle.stable_record.specs.Memory.{left_file}
use Rattle.stable_record.specs.Opening.{HasOneAnswer, Opens, OpensAsLeft}
use Rattle.stable_record.specs.declared.identity.Identity.{Identity}
use Rattle.check_worlds.proofs.Left.{as_at_first, own_identity}
use Rattle.check_worlds.proofs.Reopening.{if_opened}
use Rattle.check_worlds.proofs.reopened.crash_in_opening.Goals.{in-Err, in-Ok}
use Rattle.check_worlds.proofs.reopened.crash_in_opening.Goals as goal

pub returns : goal.returns
returns c =
    let tree = c.args.tree.now in
    let weights = c.args.weights.now in
    let me = c.args.me in
    let start = history_of c.args.disk in
    let then : History = mem_history c.into_inner.result in
    let left = left_file c.args.left then in
    let along : AllAlong (OpensAsLeft (identity tree weights me) start) start then =
    elim c.match-open.branch as (λ w. AllAlong (OpensAsLeft (identity tree weights me) start) start then) [
      | in-Ok w ↦
          let n = w.in-Ok.node in
          let same : history_of n.log.disk ≡ then = sym (ap mem_history c.into_inner.ensures ∙ ap history_of (w.disk-is ∙ w.into_disk-disk.ensures)) in
          subst (λ (x : History). AllAlong (OpensAsLeft (identity tree weights me) start) start x) same
          (subst (λ (i : Identity). AllAlong (OpensAsLeft i start) start (history_of n.log.disk)) (own_identity tree weights me n.node w.in-Ok.ensures.node) (w.in-Ok.ensures.any_moment tt))
      | in-Err w ↦
          let same : history_of w.in-Err.disk ≡ then = sym (ap mem_history c.into_inner.ensures ∙ ap history_of w.disk-is) in
          subst (λ (x : History). AllAlong (OpensAsLeft (identity tree weights me) start) start x) same (w.in-Err.ensures.any_moment_err tt)
    ] in
    if_opened c.open-2.result _ _ _ (HasOneAnswer (identity tree weights me)) (λ n opened opens one on.
    as_at_first tree weights me start then on along left c.crash-disk.ensures.possible n.node opened
    (subst (λ (x : History). Opens (identity_of n.node.member) (seen x) (Ok (texts_of n.node.notes))) c.crash-disk.ensures.left (opens tt)))
    c.open-2.ensures.node c.open-2.ensures.notes c.open-2.ensures.one_answer
