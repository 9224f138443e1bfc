-- The first entry with a path among the given files.
use Rattle.std.specs.Prelude.{◌≡◌, ◌<◌, ℕ, true, false, List, Option, None, Some, length}
use Rattle.std.specs.List.{slice_index_or}
use Rattle.std.specs.Str.{bytes_eq}
use Rattle.faults.specs.Bytes.{Text}
use Rattle.package_record.specs.Content.{NamedFile}
use Rattle.protocol.specs.Given.{Given}

-- none of the first i entries has the path
abbrev pub NoneHas : Given → Text → ℕ → Type 0
NoneHas builds path i = (k : ℕ) (d : Text × List NamedFile) → k < i → k < length builds
    → bytes_eq (slice_index_or builds k d).0 path ≡ false

-- among the first i entries, the entry with this number is the first with the path; or none has it
abbrev pub IsFirst : Given → Text → ℕ → Option ℕ → Type 0
IsFirst builds path i None = NoneHas builds path i
IsFirst builds path i (Some n) =
    (n < i) × NoneHas builds path n
    × ((d : Text × List NamedFile) → bytes_eq (slice_index_or builds n d).0 path ≡ true)
