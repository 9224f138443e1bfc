use Rattle.std.proofs.Common.{◌++◌, [], ◌∷◌, arith, length, ap, sym, ◌∙◌}
use Rattle.std.proofs.lemmas.List.FromFn.{length-range_with_len}
use Rattle.engine.proofs.Lists.{range_next}
use Rattle.member.proofs.receivers.everyone.Goals as goal

pub push-requires : goal.push-requires
push-requires c =
    let few = c.len-member-end.ensures.few in
    let so_far = ap length c.loop-member.invariant in
    let all = length-range_with_len 0 c.loop-member.member in
    (omega arith, omega (arith, few, so_far, all))

pub loop-member-preserved : goal.loop-member-preserved
loop-member-preserved c =
    c.push.ensures.items
    ∙ (ap (λ xs. xs ++ c.loop-member.member ∷ []) c.loop-member.invariant
    ∙ sym (range_next c.loop-member.member))
