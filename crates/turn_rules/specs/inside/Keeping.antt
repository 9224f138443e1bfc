-- How contracts see the state between turns.
use Rattle.turn_rules.specs.Pending.{Pending}
use Rattle.turn_rules.specs.declared.pending.Pending.TheInside.{Inside}

-- the state between turns
abbrev pub kept_of : Inside → Pending
kept_of p = record { failed = p.failed.keys; above = p.above; next = p.next }
