use Rattle.std.proofs.Common.{◌≡◌, ◌≤◌, ◌==◌, ◌||◌, length}
use Rattle.std.specs.List.{list_any}
use Rattle.turn_rules.specs.Pending.{has_failed}
use Rattle.turn_rules.proofs.Owned.{NoneFreeBefore}
use Rattle.turn_rules.proofs.owning.least_free.Given as goal

abbrev pub invariant-loop : goal.invariant-loop
invariant-loop l =
    NoneFreeBefore l.member (λ u. has_failed l.pending u || list_any (λ v. v == u) l.elsewhere)
    l.from
    × (l.counter ≤ l.from)
    × (l.end ≡ length l.member.division.tree)
