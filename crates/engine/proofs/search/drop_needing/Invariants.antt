use Rattle.std.proofs.Common.{◌≡◌, ◌+◌, ◌-◌, length, vec_capacity}
use Rattle.engine.specs.inside.Searching.{marked_many}
use Rattle.engine.proofs.Sifting.{IsSifting}
use Rattle.engine.proofs.search.drop_needing.Given as goal

abbrev pub invariant-follow : goal.invariant-follow
invariant-follow l = record {
  sifting : IsSifting l.runs l.initial.marks l.initial.dropped.items l.initial.lacks l.marks l.dropped.items l.lacks l.followed;
  room : vec_capacity l.dropped ≡ vec_capacity l.initial.dropped;
}

abbrev pub decreases-follow : goal.decreases-follow
decreases-follow l = marked_many l.initial.marks + length l.initial.dropped.items - l.followed
