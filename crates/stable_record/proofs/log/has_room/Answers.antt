use Rattle.std.proofs.Common.{rules}
use Rattle.stable_record.proofs.log.has_room.Goals as goal

pub returns-then-len-le-MAX_LEN : goal.returns-then-len-le-MAX_LEN
returns-then-len-le-MAX_LEN c = search rules

pub returns-else-len-le-MAX_LEN : goal.returns-else-len-le-MAX_LEN
returns-else-len-le-MAX_LEN c = search rules
