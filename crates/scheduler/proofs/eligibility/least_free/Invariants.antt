use Rattle.std.proofs.Common.{◌≡◌, ◌≤◌, length}
use Rattle.turn_rules.specs.Wishes.{barred_by}
use Rattle.turn_rules.proofs.Owned.{NoneFreeBefore}
use Rattle.scheduler.proofs.eligibility.least_free.Given as goal

abbrev pub invariant-loop : goal.invariant-loop
invariant-loop l =
    NoneFreeBefore l.member (barred_by l.member l.barred l.over) l.from
    × (l.counter ≤ l.from) × (l.from ≤ length l.member.division.tree)
    × (l.end ≡ length l.member.division.tree)
