use Rattle.std.proofs.Common.{ap}
use Rattle.std.proofs.lemmas.Result.{err_from_is_err_and}
use Rattle.node.proofs.Coming.{comes_lost, comes_strange, comes_whole}
use Rattle.node.proofs.Pieces.{joined_good, others_kept}
use Rattle.node.proofs.node.Node.prepare_joined.Goals as goal

pub returns-in_err-header-clause-step : goal.returns-in_err-header-clause-step
returns-in_err-header-clause-step g c =
    let p = err_from_is_err_and c.from_residual.result c.from_residual.ensures.1 in
    rw (p.1, p.2) (comes_lost c.args.self.now.node c.args.piece _)

pub invariant_of-self : goal.invariant_of-self
invariant_of-self g c = rw c.joined.ensures.same c.self.invariant

pub prepare_message-requires-clause-message : goal.prepare_message-requires-clause-message
prepare_message-requires-clause-message g c = joined_good c.args.piece.header _ c.in-Ok.message c.requires.header c.in-Ok.ensures.joined

pub prepare_message-requires-clause-pieces : goal.prepare_message-requires-clause-pieces
prepare_message-requires-clause-pieces g c =
    rw c.joined.ensures.same (others_kept c.self.inside.member c.in_ok-header.header c.self.inside.pieces.items (record { each = c.self.invariant.node.pieces; once = c.self.invariant.node.once; let_through = c.self.invariant.node.let_through }))

pub invariant_of-self-in-Err : goal.invariant_of-self-in-Err
invariant_of-self-in-Err g c = rw c.joined.ensures.same c.self.invariant

pub returns-in-Ok-clause-step : goal.returns-in-Ok-clause-step
returns-in-Ok-clause-step g c =
    let made = rw (c.joined.ensures.same, c.in_ok-header.ensures) at c.prepare_message.ensures.step in
    let same = rw c.joined.ensures.same at c.prepare_message.ensures.same in
    rw (← c.self.view_is) (comes_whole _ c.args.piece _ c.in-Ok.message _ _ _ c.in-Ok.ensures.joined (ap (λ n. n.node) same) made)

pub returns-in-Ok-clause-log : goal.returns-in-Ok-clause-log
returns-in-Ok-clause-log g c = rw (← c.self.view_is) (ap (λ n. n.log) c.prepare_message.ensures.same)

pub returns-in-Err-clause-step : goal.returns-in-Err-clause-step
returns-in-Err-clause-step g c =
    let state = rw (c.joined.ensures.same, c.in_ok-header.ensures) at c.drop_strange.ensures.node in
    rw (c.drop_strange.ensures.fault, ← c.self.view_is) (comes_strange _ c.args.piece _ _ c.in-Err.fault c.in-Err.ensures.joined state)

pub returns-in-Err-clause-log : goal.returns-in-Err-clause-log
returns-in-Err-clause-log g c = rw (← c.self.view_is) c.drop_strange.ensures.log
