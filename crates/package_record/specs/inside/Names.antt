-- The texts of a set of slices, in order of insertion.
use Rattle.std.specs.Prelude.{List, map}
use Rattle.std.specs.Borrow.{Bor}
use Rattle.indexmap.specs.IndexSet.{IndexSet}
use Rattle.faults.specs.Bytes.{Text}

-- the texts of the set, in order of insertion
abbrev pub names_in : {H : Type 0} → IndexSet (Bor Text) H → List Text
names_in s = map (λ k. k.now) s.keys
