use Rattle.std.proofs.Common.{◌≡◌, ◌==◌, filter, not}
use Rattle.std.specs.List.{range_with_len}
use Rattle.member.proofs.receivers.others.Given as goal

abbrev pub invariant-loop-member : goal.invariant-loop-member
invariant-loop-member l =
    l.members.items ≡ filter (λ k. not (k == l.me)) (range_with_len 0 l.member)
