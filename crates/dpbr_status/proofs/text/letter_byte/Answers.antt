use Rattle.std.proofs.Common.{rules}
use Rattle.dpbr_status.proofs.text.letter_byte.Goals as goal

pub returns-in-I : goal.returns-in-I
returns-in-I c = search rules
