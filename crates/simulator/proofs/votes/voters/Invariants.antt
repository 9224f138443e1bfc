use Rattle.std.proofs.Common.{◌≡◌, ℕ, length, slice_set}
use Rattle.ballots.specs.Support.{set_of}
use Rattle.simulator.proofs.Voting.{voters_below}
use Rattle.simulator.specs.inside.Deciding.{sender_place}
use Rattle.simulator.proofs.votes.voters.Given as goal

abbrev pub invariant-loop-member : goal.invariant-loop-member
invariant-loop-member l = record {
  length : length l.vote ≡ length l.text;
  vote : (k : ℕ) → slice_set l.vote sender_place k ≡ slice_set l.text sender_place k;
  weights : l.tally.weights ≡ l.weights;
  voters : set_of l.tally ≡ voters_below l.member l.sent l.text;
}
