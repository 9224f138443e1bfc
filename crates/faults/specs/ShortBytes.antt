-- Few bytes, stored at the front of a table.
use Rattle.std.specs.Prelude.{ℕ, List, ◌≤◌, take}
use Rattle.faults.specs.declared.shared_bytes.ShortBytes.TheInside.{Inside}

-- the bytes: the first `count` ones of the table
abbrev pub in_table : Inside → List ℕ
in_table bytes = take bytes.count bytes.table

-- the table has that many
abbrev pub AreInTable : Inside → Type 0
AreInTable bytes = bytes.count ≤ 39
