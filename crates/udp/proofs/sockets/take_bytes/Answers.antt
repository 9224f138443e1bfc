use Rattle.std.proofs.Common.{false}
use Rattle.udp.proofs.Coming.{Became-taken, heard_or_lost}
use Rattle.udp.proofs.sockets.take_bytes.Goals as goal

pub returns-clause-became : goal.returns-clause-became
returns-clause-became c =
    Became-taken c.args.node c.args.bytes.now c.args.inbox.now c.take.new.self c.take.result
    c.take.ensures.waits c.take.ensures.lost c.take.ensures.unsealed c.take.ensures.never

pub returns-clause-heard : goal.returns-clause-heard
returns-clause-heard c =
    (heard_or_lost c.args.node c.args.bytes.now c.args.inbox.now c.take.new.self false c.take.result
    (Became-taken c.args.node c.args.bytes.now c.args.inbox.now c.take.new.self c.take.result
    c.take.ensures.waits c.take.ensures.lost c.take.ensures.unsealed c.take.ensures.never)).0

pub returns-clause-goes_on : goal.returns-clause-goes_on
returns-clause-goes_on c =
    (heard_or_lost c.args.node c.args.bytes.now c.args.inbox.now c.take.new.self false c.take.result
    (Became-taken c.args.node c.args.bytes.now c.args.inbox.now c.take.new.self c.take.result
    c.take.ensures.waits c.take.ensures.lost c.take.ensures.unsealed c.take.ensures.never)).1
