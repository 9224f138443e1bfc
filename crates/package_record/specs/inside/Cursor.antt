-- The place of a cursor.
use Rattle.faults.specs.Bytes.{line_feed}
use Rattle.faults.specs.Pieces.{pieces_at}
use Rattle.package_record.specs.Reading.{Place}
use Rattle.package_record.specs.declared.cursor.Cursor.{Cursor}

-- the number of lines that the cursor has passed, and the rest of the lines
abbrev pub cursor_view : Cursor → Place
cursor_view c = record { passed = c.passed; lines = pieces_at line_feed c.rest.now }
