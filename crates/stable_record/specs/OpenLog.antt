-- An open log.
use Rattle.std.specs.Prelude.{◌≡◌, ℕ, ◌+◌, ◌<◌, List, length, false}
use Rattle.stable_record.specs.declared.log.Log.{Log}
use Rattle.stable_record.specs.History.{History}
use Rattle.stable_record.specs.Log.{IsSettled, Note, most_bytes}

-- The log is open and has these notes: its file is settled, and it accepts appends.
pub record Holds {D : Type 0} (history : D → History) (log : Log D) (notes : List Note)
    : Type 0 where
  pub settled : IsSettled (history log.disk) log.identity notes log.end
  pub takes_notes : log.stopped ≡ false

-- the length of a log's file in bytes; the file ends with the closed gate
abbrev pub file_len : {D : Type 0} → Log D → ℕ
file_len log = log.end + 1

-- With this note appended, the file would exceed the maximum length of a log.
abbrev pub WouldPassLimit : {D : Type 0} → Log D → Note → Type 0
WouldPassLimit log note = most_bytes < file_len log + 5 + length note
