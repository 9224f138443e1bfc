use Rattle.std.proofs.Common.{◌≡◌, ◌≤◌, length}
use Rattle.scheduler.specs.Wishing.{builds}
use Rattle.scheduler.proofs.Asked.{NoneFreeUntil}
use Rattle.scheduler.proofs.desk.Desk.next_asked.Given as goal

abbrev pub invariant-loop : goal.invariant-loop
invariant-loop l =
    NoneFreeUntil l.member (builds l.member l.self) l.from l.at
    × (l.counter ≤ l.at) × (l.from ≤ l.at)
    × (l.end ≡ length l.member.division.tree)
