use Rattle.std.proofs.Common.{◌≡◌, Ok, ap, false, subst, ◌∙◌}
use Rattle.wire.specs.Pieces.{IsDatagram}
use Rattle.node.proofs.Coming.{both_stay, bytes_done, bytes_left, bytes_strange, stopped_bytes, whole_comes}
use Rattle.node.proofs.Pieces.{message_good}
use Rattle.node.specs.Arrival.{arrival_of}
use Rattle.node.proofs.node.Node.prepare_datagram.Goals as goal

pub returns-then-self-clause-step : goal.returns-then-self-clause-step
returns-then-self-clause-step g c = rw (← c.self.view_is) (stopped_bytes _ c.args.bytes.now c.if-self.true)

pub prepare_message-requires-clause-message : goal.prepare_message-requires-clause-message
prepare_message-requires-clause-message g c =
    let m = c.in-Ok-Whole.message in
    let good = subst IsDatagram c.in-Ok-Whole.field-0-is c.in-Ok-Whole.ensures.datagram.0 in
    message_good m.path m.body good.0.body

pub prepare_message-requires-clause-pieces : goal.prepare_message-requires-clause-pieces
prepare_message-requires-clause-pieces g c = rw (← c.self.view_is) (record { each = c.self.invariant.node.pieces; once = c.self.invariant.node.once; let_through = c.self.invariant.node.let_through })

pub prepare_piece-requires : goal.prepare_piece-requires
prepare_piece-requires g c = subst IsDatagram c.in-Ok-Piece.field-0-is c.in-Ok-Piece.ensures.datagram.0

pub returns-in-Ok-Whole-clause-step : goal.returns-in-Ok-Whole-clause-step
returns-in-Ok-Whole-clause-step g c =
    let n = c.args.self.now.node in
    let running : n.stopped ≡ false = rw (← c.self.view_is) c.if-self.false in
    let is = ap (arrival_of n.member n.pieces) (c.in-Ok-Whole.ensures.exact ∙ ap Ok c.in-Ok-Whole.field-0-is) in
    bytes_done n c.prepare_message.new.self.node c.args.bytes.now running _ is c.prepare_message.result
    (whole_comes n c.prepare_message.new.self.node c.in-Ok-Whole.message n.pieces c.prepare_message.result (ap (λ n. n.node) c.prepare_message.ensures.same) c.prepare_message.ensures.step)

pub returns-in-Ok-Whole-clause-ready : goal.returns-in-Ok-Whole-clause-ready
returns-in-Ok-Whole-clause-ready g c =
    let n = c.args.self.now.node in
    let running : n.stopped ≡ false = rw (← c.self.view_is) c.if-self.false in
    let is = ap (arrival_of n.member n.pieces) (c.in-Ok-Whole.ensures.exact ∙ ap Ok c.in-Ok-Whole.field-0-is) in
    bytes_left n c.prepare_message.new.self.node c.args.bytes.now running _ is c.prepare_message.result
    (whole_comes n c.prepare_message.new.self.node c.in-Ok-Whole.message n.pieces c.prepare_message.result (ap (λ n. n.node) c.prepare_message.ensures.same) c.prepare_message.ensures.step)

pub returns-in-Ok-Piece-clause-step : goal.returns-in-Ok-Piece-clause-step
returns-in-Ok-Piece-clause-step g c =
    let n = c.args.self.now.node in
    let running : n.stopped ≡ false = rw (← c.self.view_is) c.if-self.false in
    let is = ap (arrival_of n.member n.pieces) (c.in-Ok-Piece.ensures.exact ∙ ap Ok c.in-Ok-Piece.field-0-is) in
    bytes_done n c.prepare_piece.new.self.node c.args.bytes.now running _ is c.prepare_piece.result c.prepare_piece.ensures.step

pub returns-in-Ok-Piece-clause-ready : goal.returns-in-Ok-Piece-clause-ready
returns-in-Ok-Piece-clause-ready g c =
    let n = c.args.self.now.node in
    let running : n.stopped ≡ false = rw (← c.self.view_is) c.if-self.false in
    let is = ap (arrival_of n.member n.pieces) (c.in-Ok-Piece.ensures.exact ∙ ap Ok c.in-Ok-Piece.field-0-is) in
    bytes_left n c.prepare_piece.new.self.node c.args.bytes.now running _ is c.prepare_piece.result c.prepare_piece.ensures.step

pub returns-in-Ok-Piece-clause-same : goal.returns-in-Ok-Piece-clause-same
returns-in-Ok-Piece-clause-same g c = both_stay c.args.self.now c.prepare_piece.new.self _ c.prepare_piece.result c.prepare_piece.ensures.step c.prepare_piece.ensures.log

pub returns-in-Err-clause-step : goal.returns-in-Err-clause-step
returns-in-Err-clause-step g c =
    let n = c.args.self.now.node in
    let running : n.stopped ≡ false = rw (← c.self.view_is) c.if-self.false in
    rw c.strange.ensures (bytes_strange n c.args.bytes.now running c.in-Err.fault c.in-Err.ensures.exact)
