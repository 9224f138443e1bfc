use Rattle.std.proofs.Common.{◌≡◌, ◌∙◌, Ok, ap, subst, sym}
use Rattle.node.specs.Calls.{LeavesItsNoteAtMost}
use Rattle.node.specs.OnLog.{identity, identity_of, texts_of}
use Rattle.node.specs.Step.{Does}
use Rattle.stable_record.specs.Failing.{history_of}
use Rattle.stable_record.specs.History.{History, seen}
use Rattle.stable_record.specs.InMemory.{mem_history}
use Rattle.stable_record.specs.Memory.{left_file}
use Rattle.stable_record.specs.Opening.{HasOneAnswer, Opens}
use Rattle.check_worlds.proofs.Reopening.{crashed, if_opened}
use Rattle.check_worlds.proofs.reopened.crash_inside.Goals as goal

pub returns : goal.returns
returns c =
    let old = c.args.node in
    let tree = c.args.tree.now in
    let weights = c.args.weights.now in
    let asked = Does c.args.input in
    let then : History = mem_history c.into_inner.result in
    let same : history_of c.handle-answer.new.self.log.disk ≡ then = sym (ap mem_history c.into_inner.ensures ∙ ap history_of c.into_disk.ensures) in
    let left = left_file c.args.left then in
    if_opened c.open.result _ _ _ (HasOneAnswer (identity tree weights c.args.me)) (λ n opened opens one on own.
    crashed history_of old on tree weights c.args.me own asked then
    (subst (λ (x : History). LeavesItsNoteAtMost old.node asked (history_of old.log.disk) x) same (c.handle-answer.ensures.any_moment tt on))
    left c.crash-disk.ensures.possible one n.node opened
    (subst (λ (x : History). Opens (identity_of n.node.member) (seen x) (Ok (texts_of n.node.notes))) c.crash-disk.ensures.left (opens tt)))
    c.open.ensures.node c.open.ensures.notes c.open.ensures.one_answer
