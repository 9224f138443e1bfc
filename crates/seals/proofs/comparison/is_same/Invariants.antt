use Rattle.std.proofs.Common.{◌≡◌, ℕ, ◌<◌, get_or}
use Rattle.seals.proofs.comparison.is_same.Given as goal

abbrev pub invariant-loop-place : goal.invariant-loop-place
invariant-loop-place l = record {
  same : l.difference ≡ 0 → (k : ℕ) → k < l.place → get_or l.ours k 0 ≡ get_or l.theirs k 0;
  none : l.ours ≡ l.theirs → l.difference ≡ 0;
}
