use Rattle.std.proofs.Common.{◌≡◌, filter, not}
use Rattle.std.specs.List.{range_with_len}
use Rattle.ballots.specs.Support.{set_of}
use Rattle.member.proofs.receivers.missing.Given as goal

abbrev pub invariant-loop-member : goal.invariant-loop-member
invariant-loop-member l =
    l.members.items ≡ filter (λ k. not (set_of l.tally k)) (range_with_len 0 l.member)
