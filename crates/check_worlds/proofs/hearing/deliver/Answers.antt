use Rattle.std.proofs.Common.{◌≡◌, ◌∙◌, ◌++◌, ℕ, List, ap}
use Rattle.ballots.specs.declared.message.Message.{Message}
use Rattle.protocol.specs.State.{Value}
use Rattle.wire.specs.Spelling.{datagram_text}
use Rattle.wire.specs.declared.datagram.Datagram.TheVariants.{Whole}
use Rattle.check_worlds.proofs.Whole.{if_took}
use Rattle.check_worlds.proofs.hearing.deliver.Goals as goal

pub returns : goal.returns
returns g c =
    let m = c.args.message.now in
    let made = c.in_ok-copy.field-0 in
    let same : c.as_slice.result.now ≡ datagram_text (Whole m) =
    c.as_slice.ensures.value ∙ c.in_ok-encode.ensures.ok ∙ ap (λ (xs : List ℕ). xs ++ datagram_text (Whole made)) c.new-text.ensures.items
    ∙ ap (λ (x : Message Value). datagram_text (Whole x)) c.in_ok-copy.ensures in
    if_took c.handle_datagram.result c.args.node.now.node c.handle_datagram.new.self.node m c.as_slice.result.now same
    (c.texts_are_read_again.ensures.datagrams (Whole m) (c.requires.message, c.requires.whole))
    c.only_running_nodes_take.ensures c.handle_datagram.ensures.taken
