use Rattle.std.proofs.Common.{◌≡◌, ℕ, Some, fold, map, max}
use Rattle.std.specs.List.{range_with_len}
use Rattle.engine.specs.Division.{number_found}
use Rattle.ways_on.specs.Rounds.{round_in, seen_at}
use Rattle.ways_on.proofs.survey.last_round.Given as goal

abbrev pub invariant-loop-other : goal.invariant-loop-other
invariant-loop-other l = (u : ℕ) → number_found l.world.world.division l.path ≡ Some u
    → l.last ≡ fold max (seen_at l.world.world u l.node).opened
    (map (λ k. round_in (seen_at l.world.world u k).promised) (range_with_len 0 l.other))
