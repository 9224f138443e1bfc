use Rattle.std.proofs.Common.{◌≡◌, string_bytes, take}
use Rattle.dpbr_cli.specs.Explaining.{rows_text, text_now}
use Rattle.dpbr_cli.proofs.explaining.rows_text.Given as goal

abbrev pub invariant-loop-row : goal.invariant-loop-row
invariant-loop-row l = string_bytes l.text ≡ rows_text text_now (take l.row-index l.rows) l.number
