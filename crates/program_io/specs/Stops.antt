-- Why a program stops before its answer is printed.
use Rattle.std.specs.Prelude.{◌≡◌, ◌≢◌, ◌⊎◌, ◌++◌, ⊤, ℕ, List, [], ◌∷◌, Option, codes}
use Rattle.std.specs.Io.KnownBytes.{Appends}
use Rattle.clap.specs.Words.{kind_of}
use Rattle.clap.specs.declared.error.Error.{Error}
use Rattle.clap.specs.declared.error.kind.ErrorKind.TheVariants.{OutOfMemory}
use Rattle.faults.specs.Bytes.{Text, line_feed}
use Rattle.program_io.specs.Printing.{AppendsBeginning}
use Rattle.program_io.specs.Refusals.{memory_refusal, refusal_text}
use Rattle.program_io.specs.declared.refusal.Refusal.{Refusal}
use Rattle.program_io.specs.declared.stop.Stop.{Stop}
use Rattle.program_io.specs.declared.stop.Stop.TheVariants.{Refused, Unwritten, WrongWords}

-- the exit status of the program
abbrev pub status_after : Stop → ℕ
status_after (WrongWords e) = 2
status_after (Refused r) = 1
status_after (Unwritten r) = 1

-- clap's error stops the program, as out of memory or as wrong words
abbrev pub StopsBy : Error → Stop → Type 0
StopsBy e stop =
    ((kind_of e ≡ OutOfMemory) × (stop ≡ Refused memory_refusal))
    ⊎ ((kind_of e ≢ OutOfMemory) × (stop ≡ WrongWords e))

-- the line that is printed for a refusal
abbrev pub refusal_line : Text → Refusal → Text
refusal_line program r = program ++ codes ": " ++ refusal_text r ++ line_feed ∷ []

-- What was written, if known, is the line of the refusal. Nothing is said about clap's own texts.
abbrev pub IsTold : Text → Stop → Option (List ℕ) → Option (List ℕ) → Type 0
IsTold program (WrongWords e) before after = ⊤
IsTold program (Refused r) before after = Appends before after (refusal_line program r)
IsTold program (Unwritten r) before after = Appends before after (refusal_line program r)

-- What was written, if known, is a prefix of that line. Nothing is said about clap's own texts.
abbrev pub IsBegun : Text → Stop → Option (List ℕ) → Option (List ℕ) → Type 0
IsBegun program (WrongWords e) before after = ⊤
IsBegun program (Refused r) before after = AppendsBeginning before after (refusal_line program r)
IsBegun program (Unwritten r) before after = AppendsBeginning before after (refusal_line program r)
