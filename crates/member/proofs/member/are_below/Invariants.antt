use Rattle.std.proofs.Common.{◌≡◌, nat_lt, take, true}
use Rattle.std.specs.List.{list_all}
use Rattle.member.proofs.member.are_below.Given as goal

abbrev pub invariant-loop-member : goal.invariant-loop-member
invariant-loop-member l =
    list_all (λ k. nat_lt k l.number) (take l.member-index l.members) ≡ true
