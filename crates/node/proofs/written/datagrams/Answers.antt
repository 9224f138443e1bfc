use Rattle.wire.proofs.Cutting.{split_good}
use Rattle.wire.specs.Messages.{IsMessage}
use Rattle.std.proofs.Common.{subst, sym}
use Rattle.node.proofs.written.datagrams.Goals as goal

pub all_texts-requires : goal.all_texts-requires
all_texts-requires c =
    let m = c.in_ok-message.message in
    rw (c.as_slice.ensures.value, c.in_ok-datagrams.ensures) (split_good m (subst IsMessage (sym c.in_ok-message.ensures) c.requires))
