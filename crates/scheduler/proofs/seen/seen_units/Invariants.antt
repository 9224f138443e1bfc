use Rattle.std.proofs.Common.{◌≡◌, ◌≤◌, length}
use Rattle.std.specs.Prelude.{nat_eq}
use Rattle.indexmap.specs.IndexMap.{get}
use Rattle.turn_rules.proofs.Owned.{NoneFreeBefore}
use Rattle.scheduler.specs.Waiting.{AreSince, is_seen}
use Rattle.scheduler.proofs.seen.seen_units.Given as goal

abbrev pub invariant-loop : goal.invariant-loop
invariant-loop l =
    AreSince l.member (get nat_eq l.before) l.now (get nat_eq l.seen)
    × NoneFreeBefore l.member (is_seen (get nat_eq l.seen)) l.from
    × (l.counter ≤ l.from) × (l.from ≤ length l.member.division.tree)
    × (l.end ≡ length l.member.division.tree)
