use Rattle.std.proofs.Common.{rules, append_assoc}
use Rattle.program_io.proofs.stop.Stop.tell.Goals as goal

pub returns-in-WrongWords : goal.returns-in-WrongWords
returns-in-WrongWords c = search rules

pub returns-in-Refused : goal.returns-in-Refused
returns-in-Refused c = search (rules, append_assoc)
