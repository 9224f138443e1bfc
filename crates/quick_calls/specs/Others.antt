-- The calls that the small program doesn't carry out.
use Rattle.std.specs.Prelude.{⊤, List}
use Rattle.clap.specs.Words.{Text as Word}
use Rattle.dpbr_cli.specs.Calls.{AreTaken, IsCallOf, matched}
use Rattle.dpbr_cli.specs.declared.Call.{Call}
use Rattle.dpbr_cli.specs.declared.Call.TheVariants.{Audit, Explain, Release, Run, Status, Wayon}

-- the call is a run or a way on
abbrev pub IsOther : Call → Type 0
IsOther (Status listing held is_single) = ⊥
IsOther (Audit listing list is_single) = ⊥
IsOther (Run listing trace is_single has_events) = ⊤
IsOther (Wayon listing trace node path host builds is_single) = ⊤
IsOther (Explain number) = ⊥
IsOther Release = ⊥

-- clap accepts the arguments, and the matched call is a run or a way on
pub record AsksForOther (words : List Word) : Type 0 where
  pub taken : AreTaken words
  pub call : Call
  pub is_call : IsCallOf (matched words) call
  pub other : IsOther call
