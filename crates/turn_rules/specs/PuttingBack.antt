-- Restoring the state from before a node did something.
use Rattle.std.specs.Prelude.{length, take}
use Rattle.turn_rules.specs.Pending.{Pending}
use Rattle.turn_rules.specs.declared.pending.Before.{Before}

-- what has to be saved: of the failed units only their number, since they are only appended
abbrev pub before_of : Pending → Before
before_of p = record { failed = length p.failed; above = p.above; next = p.next }

-- the first failed units, this many, and the saved rest
abbrev pub put_back : Pending → Before → Pending
put_back p before = record {
  failed = take before.failed p.failed;
  above = before.above;
  next = before.next;
}
