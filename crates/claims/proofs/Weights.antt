-- Partial weights, member by member.
use Rattle.std.proofs.Common.{◌≡◌, ℕ, suc, ◌+◌, ◌<◌, List, [], ◌∷◌, ◌++◌, length, take, get_or, sum, if◌then◌else◌, ap, arith, ◌∙◌}
use Rattle.std.proofs.lemmas.List.{take_more, length-take-le}
use Rattle.std.proofs.lemmas.List.Sums.{sum_by-append, sum_by-cons}
use Rattle.claims.specs.Quorums.{Members, weight}

-- the sum after one more number is appended
sum-more : (ws : List ℕ) (w : ℕ) → sum (ws ++ w ∷ []) ≡ sum ws + w
sum-more ws w = sum_by-append (λ x. x) ws (w ∷ []) ∙ (let last : sum (w ∷ []) ≡ w + 0 = sum_by-cons (λ x. x) w [] in omega (arith, last))

-- one more member adds its weight, if it is in the set
weight-more : (ws : List ℕ) (w : ℕ) (S : Members)
    → weight (ws ++ w ∷ []) S ≡ weight ws S + (if S (length ws) then w else 0)
weight-more [] w S = omega arith
weight-more (v ∷ vs) w S = let e = weight-more vs w (λ k. S (suc k)) in omega (arith, e)

-- the partial sum after one more member
pub sum-take_more : (ws : List ℕ) (k : ℕ) → k < length ws → sum (take (k + 1) ws) ≡ sum (take k ws) + get_or ws k 0
sum-take_more ws k h = ap sum (take_more ws k 0 h) ∙ sum-more (take k ws) (get_or ws k 0)

-- the partial weight after one more member
pub weight-take_more : (ws : List ℕ) (S : Members) (k : ℕ) → k < length ws
    → weight (take (k + 1) ws) S ≡ weight (take k ws) S + (if S k then get_or ws k 0 else 0)
weight-take_more ws S k h =
    ap (λ l. weight l S) (take_more ws k 0 h)
    ∙ (weight-more (take k ws) (get_or ws k 0) S
    ∙ ap (λ n. weight (take k ws) S + (if S n then get_or ws k 0 else 0)) (length-take-le k ws (omega (arith, h))))
