-- The results of a job.
use Rattle.std.specs.Prelude.{◌≤◌, ⊤, length}
use Rattle.job_folder.specs.declared.answer.Answer.{Answer}
use Rattle.job_folder.specs.declared.answer.Answer.TheVariants.{Failed, Made, NotYet, TooLong}
use Rattle.job_folder.specs.declared.TheConstants.{LONGEST_ANSWER}

-- a text that is returned does not exceed the maximum length of an answer
abbrev pub Fits : Answer → Type 0
Fits NotYet = ⊤
Fits Failed = ⊤
Fits TooLong = ⊤
Fits (Made text) = length text.items ≤ LONGEST_ANSWER
