use Rattle.std.proofs.Common.{◌≡◌, ◌≤◌, length}
use Rattle.scheduler.specs.Wishing.{passed_at}
use Rattle.turn_rules.proofs.Owned.{NoneFreeBefore}
use Rattle.scheduler.proofs.desk.Desk.least_of.Given as goal

abbrev pub invariant-loop : goal.invariant-loop
invariant-loop l =
    NoneFreeBefore l.member (passed_at l.self l.member l.at l.sought) l.from
    × (l.counter ≤ l.from) × (l.from ≤ length l.member.division.tree)
    × (l.end ≡ length l.member.division.tree)
