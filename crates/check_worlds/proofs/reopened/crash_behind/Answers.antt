use Rattle.std.proofs.Common.{◌≡◌, ◌∙◌, Ok, ap, subst, sym}
use Rattle.node.specs.OnLog.{identity_of, texts_of}
use Rattle.node.specs.Step.{Does}
use Rattle.stable_record.specs.Crash.{MayLeave}
use Rattle.stable_record.specs.Failing.{history_of}
use Rattle.stable_record.specs.History.{History, seen}
use Rattle.stable_record.specs.InMemory.{mem_history}
use Rattle.stable_record.specs.Memory.{left_file}
use Rattle.stable_record.specs.Opening.{Opens}
use Rattle.check_worlds.proofs.Left.{as_after}
use Rattle.check_worlds.proofs.reopened.crash_behind.Goals as goal

pub returns-in_ok-again-in-Ok : goal.returns-in_ok-again-in-Ok
returns-in_ok-again-in-Ok c on own =
    let old = c.args.node.node in
    let mid = c.handle.new.self in
    let n = c.in_ok-again-in-Ok.again.node in
    let then : History = mem_history c.into_inner.result in
    let same : history_of mid.log.disk ≡ then = sym (ap mem_history c.into_inner.ensures ∙ ap history_of c.into_disk.ensures) in
    let left = left_file c.args.left then in
    as_after history_of old mid (Does c.args.input) c.in-Ok.out c.in-Ok.ensures.taken (c.in-Ok.ensures.on_log tt on) c.log_len-len.ensures.node.node
    c.args.tree.now c.args.weights.now c.args.me own left
    (subst (λ (x : History). MayLeave x left) (sym same) c.crash-disk.ensures.possible) n c.in_ok-again-in-Ok.ensures.one_node c.in_ok-again-in-Ok.ensures.node
    (subst (λ (x : History). Opens (identity_of n.member) (seen x) (Ok (texts_of n.notes))) c.crash-disk.ensures.left (c.in_ok-again-in-Ok.ensures.notes tt))
