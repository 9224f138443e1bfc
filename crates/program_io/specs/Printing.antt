-- Which part of a text was written.
use Rattle.std.specs.Prelude.{ℕ, List, Option, take}
use Rattle.std.specs.Io.KnownBytes.{Appends}
use Rattle.faults.specs.Bytes.{Text}

-- known contents grow by a prefix of the text: by nothing, a part of it or the whole
abbrev pub AppendsBeginning : Option (List ℕ) → Option (List ℕ) → Text → Type 0
AppendsBeginning before after text = (n : ℕ) × Appends before after (take n text)
