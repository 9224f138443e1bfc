use Rattle.std.proofs.Common.{◌≡◌, Err, None, Ok, Result, false, subst, sym, true}
use Rattle.node.proofs.Coming.{comes_again, comes_foreign, comes_kept, comes_last}
use Rattle.node.proofs.Pieces.{new_kept}
use Rattle.node.specs.Arrival.{arrival_of_piece, refusal_of}
use Rattle.node.specs.Kept.{are_all, has_number, with_piece}
use Rattle.node.specs.State.{LoggedNode}
use Rattle.node.specs.Step.{ReadyStep}
use Rattle.node.specs.declared.fault.NodeFault.{NodeFault}
use Rattle.node.specs.inside.Stepping.{ComesAs}
use Rattle.wire.specs.declared.datagram.Piece.{Piece}
use Rattle.node.proofs.node.Node.prepare_piece.Goals as goal

abbrev Comes : {D : Type 0} → Piece → Result ReadyStep NodeFault → LoggedNode D → Type 0
Comes p result n = ComesAs n.node n.node (arrival_of_piece n.node.pieces p (refusal_of n.node.member p.header)) result

pub prepare_joined-requires : goal.prepare_joined-requires
prepare_joined-requires g c = c.requires

pub returns-in-Err-clause-step : goal.returns-in-Err-clause-step
returns-in-Err-clause-step g c =
    subst (Comes c.args.piece (Err c.foreign.result)) c.self.view_is (rw c.foreign.ensures (comes_foreign _ c.args.piece _ c.in-Err.refusal c.in-Err.ensures.err))

pub returns-then-has_number-clause-step : goal.returns-then-has_number-clause-step
returns-then-has_number-clause-step g c =
    let has = sym (rw c.as_slice.ensures.value at c.if-has_number.ensures) in
    subst (Comes c.args.piece (Ok c.waiting.result)) c.self.view_is (rw c.waiting.ensures (comes_again _ c.args.piece _ c.in_default.ensures.ok has c.self.invariant.node))

pub returns-then-is_last-clause-step : goal.returns-then-is_last-clause-step
returns-then-is_last-clause-step g c =
    let p = c.args.piece in
    let n = c.args.self.now in
    let none : refusal_of n.node.member p.header ≡ None = subst (λ (n : LoggedNode g.row.D.Denot). refusal_of n.node.member p.header ≡ None) c.self.view_is c.in_default.ensures.ok in
    let has : has_number p.header n.node.pieces p.number ≡ false =
    subst (λ (n : LoggedNode g.row.D.Denot). has_number p.header n.node.pieces p.number ≡ false) c.self.view_is (sym (rw c.as_slice.ensures.value at c.if-has_number.ensures)) in
    let all : are_all p.header (with_piece n.node.pieces p) ≡ true =
    subst (λ (n : LoggedNode g.row.D.Denot). are_all p.header (with_piece n.node.pieces p) ≡ true) c.self.view_is (sym (rw c.as_slice-else-has_number.ensures.value at c.if-is_last.ensures)) in
    comes_last n.node p c.prepare_joined.new.self.node c.prepare_joined.result (refusal_of n.node.member p.header) none has all c.prepare_joined.ensures.step

pub returns-else-is_last-clause-step : goal.returns-else-is_last-clause-step
returns-else-is_last-clause-step g c =
    let p = c.args.piece in
    let has = sym (rw c.as_slice.ensures.value at c.if-has_number.ensures) in
    let all = sym (rw c.as_slice-else-has_number.ensures.value at c.if-is_last.ensures) in
    let is = c.self.invariant.node in
    subst (Comes p (Ok c.waiting-else-is_last.result)) c.self.view_is
    (rw c.waiting-else-is_last.ensures (comes_kept _ p _ c.in_default.ensures.ok has all is (new_kept _ _ p (record { each = is.pieces; once = is.once; let_through = is.let_through }) c.requires has c.in_default.ensures.ok)))
