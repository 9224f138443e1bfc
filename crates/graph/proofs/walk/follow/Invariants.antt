use Rattle.std.proofs.Common.{◌≡◌, ◌-◌, length, vec_capacity}
use Rattle.graph.specs.Lists.{list_at}
use Rattle.graph.proofs.Walks.{IsFollowing}
use Rattle.graph.proofs.walk.follow.Given as goal

abbrev pub invariant-follow : goal.invariant-follow
invariant-follow l = record {
  following : IsFollowing (list_at (l.lists)) l.initial.marks l.marks l.found.items l.followed;
  room : vec_capacity l.found ≡ vec_capacity l.initial.found;
}

abbrev pub decreases-follow : goal.decreases-follow
decreases-follow l = length l.marks - l.followed
