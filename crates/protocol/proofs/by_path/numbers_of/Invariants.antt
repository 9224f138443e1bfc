use Rattle.std.specs.Str.{bytes_eq}
use Rattle.faults.specs.Bytes.{Text}
use Rattle.indexmap.specs.IndexMap.{get}
use Rattle.protocol.specs.inside.First.{IsFirst}
use Rattle.protocol.proofs.by_path.numbers_of.Given as goal

abbrev pub invariant-loop-number : goal.invariant-loop-number
invariant-loop-number l = (path : Text) → IsFirst l.builds path l.number (get bytes_eq l.numbers path)
