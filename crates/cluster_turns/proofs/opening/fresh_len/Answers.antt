use Rattle.std.proofs.Common.{◌≡◌, ◌+◌, Bool, true, false, length, sym, ap, ◌∙◌, if◌then◌else◌}
use Rattle.stable_record.specs.Magic.{are_ones}
use Rattle.cluster_turns.proofs.Fresh.{fresh_place}
use Rattle.cluster_turns.proofs.opening.fresh_len.Goals as goal

pub returns-then-are_ones : goal.returns-then-are_ones
returns-then-are_ones c tree me =
    let w = c.args.weights.now in
    let ones : are_ones w ≡ true = ap are_ones (sym c.as_slice-all.ensures.weights)
    ∙ sym c.are_ones.ensures ∙ c.if-are_ones.true in
    sym (fresh_place tree w me ∙ ap (λ (b : Bool). if b then 44 else 44 + length w) ones)

pub returns-else-are_ones : goal.returns-else-are_ones
returns-else-are_ones c tree me =
    let w = c.args.weights.now in
    let others : are_ones w ≡ false = ap are_ones (sym c.as_slice-all.ensures.weights)
    ∙ sym c.are_ones.ensures ∙ c.if-are_ones.false in
    ap (λ ws. 44 + length ws) c.as_slice-all.ensures.weights
    ∙ sym (fresh_place tree w me ∙ ap (λ (b : Bool). if b then 44 else 44 + length w) others)
