use Rattle.wire.proofs.Places.{as_long, none_longer, sender_stands}
use Rattle.wire.proofs.laws.places_and_lengths.Goals as goal

pub returns-clause-sender : goal.returns-clause-sender
returns-clause-sender c = sender_stands

pub returns-clause-longest : goal.returns-clause-longest
returns-clause-longest c = none_longer

pub returns-clause-as_long : goal.returns-clause-as_long
returns-clause-as_long c = as_long
