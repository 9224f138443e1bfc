use Rattle.udp.proofs.NoticeLemmas.{notices_went_on}
use Rattle.udp.proofs.sockets.take_noticed.Goals as goal

pub returns-in-Some-clause-goes_on : goal.returns-in-Some-clause-goes_on
returns-in-Some-clause-goes_on c =
    notices_went_on c.args.sieve.seats.now c.args.sieve.members.now c.args.sieve.is_open c.args.from.now c.args.bytes.now
    c.args.notices.now c.take_notice-came.new.notices c.take_notice-came.result c.take_notice-came.ensures

pub returns-in-None-clause-goes_on : goal.returns-in-None-clause-goes_on
returns-in-None-clause-goes_on c =
    notices_went_on c.args.sieve.seats.now c.args.sieve.members.now c.args.sieve.is_open c.args.from.now c.args.bytes.now
    c.args.notices.now c.take_notice-came.new.notices c.take_notice-came.result c.take_notice-came.ensures
