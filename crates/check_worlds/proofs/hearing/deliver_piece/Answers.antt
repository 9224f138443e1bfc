use Rattle.std.proofs.Common.{◌≡◌, ◌∙◌, ◌++◌, ℕ, List, ap}
use Rattle.wire.specs.Spelling.{datagram_text}
use Rattle.wire.specs.declared.datagram.Datagram.TheVariants as datagram
use Rattle.wire.specs.declared.datagram.Piece as pieces
use Rattle.check_worlds.proofs.Joined.{if_joined}
use Rattle.check_worlds.proofs.hearing.deliver_piece.Goals as goal

pub returns : goal.returns
returns g c =
    let p = c.args.piece.now in
    let made = c.in_ok-copy.field-0 in
    let same : c.as_slice.result.now ≡ datagram_text (datagram.Piece p) =
    c.as_slice.ensures.value ∙ c.in_ok-encode.ensures.ok ∙ ap (λ (xs : List ℕ). xs ++ datagram_text (datagram.Piece made)) c.new-text.ensures.items
    ∙ ap (λ (x : pieces.Piece). datagram_text (datagram.Piece x)) c.in_ok-copy.ensures in
    if_joined c.handle_datagram.result c.args.node.now.node c.handle_datagram.new.self.node c.as_slice.result.now p same
    (c.texts_are_read_again.ensures.datagrams (datagram.Piece p) c.requires.piece)
    c.only_running_nodes_take.ensures c.pieces_join.ensures.any_order c.handle_datagram.ensures.taken
