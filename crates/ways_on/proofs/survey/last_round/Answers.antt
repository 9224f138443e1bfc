use Rattle.std.proofs.Common.{[], ◌∷◌, ℕ, fold, map, max, sym, ap, ◌∙◌, arith}
use Rattle.std.specs.List.{range_with_len}
use Rattle.std.proofs.lemmas.List.FromFn.{map-range_with_len_more}
use Rattle.std.proofs.lemmas.List.Sums.{fold-append}
use Rattle.ways_on.specs.Rounds.{round_in, seen_at}
use Rattle.ways_on.proofs.survey.last_round.Goals as goal

pub loop-other-preserved : goal.loop-other-preserved
loop-other-preserved c = λ u named.
    let w = c.args.world.now.world in
    let n = c.loop-other.other in
    let round = λ (k : ℕ). round_in (seen_at w u k).promised in
    let first = (seen_at w u c.args.node).opened in
    let before = map round (range_with_len 0 n) in
    c.max-last.ensures
    ∙ ap (λ r. max c.loop-other.last r) (c.round_promised.ensures u named)
    ∙ ap (λ r. max r (round n)) (c.loop-other.invariant u named)
    ∙ sym (ap (fold max first) (map-range_with_len_more round 0 n n (omega arith))
    ∙ fold-append max first before (round n ∷ []))
