use Rattle.std.proofs.Common.{◌≡◌, ◌-◌, length, vec_capacity}
use Rattle.engine.proofs.Finding.{IsFollowing}
use Rattle.engine.proofs.search.follow.Given as goal

abbrev pub invariant-follow : goal.invariant-follow
invariant-follow l = record {
  following : IsFollowing l.letters l.runs l.initial.marks l.marks l.found.items l.followed;
  room : vec_capacity l.found ≡ vec_capacity l.initial.found;
}

abbrev pub decreases-follow : goal.decreases-follow
decreases-follow l = length l.marks - l.followed
