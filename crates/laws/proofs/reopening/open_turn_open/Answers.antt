use Rattle.std.proofs.Common.{◌∙◌, ap, subst, sym}
use Rattle.laws.proofs.Reopened.{identity_opened}
use Rattle.laws.specs.Reopening.{IsLeftInTurn, MayBeLeft}
use Rattle.node.specs.OnLog.{IsOnLog, identity_of, texts_of}
use Rattle.node.specs.State.{LoggedNode}
use Rattle.stable_record.specs.History.{seen}
use Rattle.laws.proofs.reopening.open_turn_open.Goals as goal

pub turn_then_open-requires-clause-own : goal.turn_then_open-requires-clause-own
turn_then_open-requires-clause-own g c =
    ap (λ (n : LoggedNode _). identity_of n.node.member) c.new-solo.ensures.node
    ∙ identity_opened c.args.tree.now c.args.weights.now c.args.me c.in-Ok.node.node
    c.in-Ok.ensures.node

pub returns-in-Some : goal.returns-in-Some
returns-in-Some g c =
    let n = c.in-Ok.node in
    let same = c.new-solo.ensures.node in
    let kept = λ (k : _). subst (λ (m : LoggedNode _). g.D.Disk.is_kept m.log.disk) same
    (c.turn_then_open.ensures.kept k) in
    record {
      opened = n;
      is_opened = c.in-Ok.ensures.node;
      notes = λ k. c.in-Ok.ensures.notes (kept k);
      opened_again = c.in-Some.ensures.opened;
      has = λ e k gone. subst (λ (m : LoggedNode _). IsLeftInTurn m.node
          (texts_of c.in-Some.again.node.notes)) same
          (c.in-Some.ensures.left e k
          (subst (λ (m : LoggedNode _). IsOnLog g.D.Disk.history m) (sym same)
          (c.in-Ok.ensures.on_log (kept k)))
          (subst (λ (m : LoggedNode _). MayBeLeft (g.D.Disk.history m.log.disk)
          (g.D.Disk.history c.turn_then_open.new.solo.node.log.disk)
          (seen (g.E.Disk.history c.args.left))) (sym same) gone));
    }
