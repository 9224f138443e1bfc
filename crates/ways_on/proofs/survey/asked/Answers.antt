use Rattle.std.proofs.Common.{◌≡◌, ◌<◌, ◌++◌, true, [], ◌∷◌, filter, ap, length, sym, ◌∙◌, arith}
use Rattle.std.specs.List.{range_with_len}
use Rattle.claims.specs.Quorums.{is_majority, named_in}
use Rattle.member.proofs.KeptNumbers.{no_more, none_more_kept, one_more_kept}
use Rattle.ways_on.proofs.Enough.{asked_stops, none_up, nobody_is_none}
use Rattle.ways_on.proofs.Holding.{one_for_each}
use Rattle.ways_on.proofs.survey.asked.Goals as goal
use Rattle.ways_on.proofs.survey.asked.Goals.{then-is_up+else-is_majority, else-is_up}
use Rattle.world.specs.Happening.{is_up}

pub loop-node-init : goal.loop-node-init
loop-node-init c =
    let none = c.new-asked.ensures in
    record {
      kept = none;
      none = ap (λ l. is_majority c.args.world.now.world.weights (named_in l)) none
          ∙ nobody_is_none c.args.world.now.world.weights;
    }

pub push-requires : goal.push-requires
push-requires c =
    let few = c.len-node-end.ensures.few in
    let so_far = no_more (is_up c.args.world.now.world) c.loop-node.node
    c.loop-node.asked.items c.loop-node.invariant.kept in
    (omega arith, omega (arith, few, so_far))

pub loop-node-preserved : goal.loop-node-preserved
loop-node-preserved c =
    let w = c.args.world.now.world in
    let k = c.loop-node.node in
    let xs = c.loop-node.asked.items in
    elim c.if-is_up.branch [
      | then-is_up+else-is_majority w' ↦
          let pushed = ap (λ v. v.items) w'.asked-is ∙ w'.push.ensures.items in
          record {
            kept = pushed ∙ one_more_kept (is_up w) k xs c.loop-node.invariant.kept
                (sym c.is_up.ensures ∙ w'.if-is_up.true);
            none = ap (λ v. is_majority w.weights (named_in v.items)) w'.asked-is
                ∙ ap (λ l. is_majority w.weights (named_in l)) (sym w'.as_slice-then-is_up.ensures.value)
                ∙ ap (λ l. is_majority l (named_in w'.as_slice-then-is_up.result.now))
                (sym (w'.as_slice.ensures.weights ∙ c.weights-weights.ensures))
                ∙ sym w'.is_majority.ensures ∙ w'.if-is_majority.false;
          }
      | else-is_up w' ↦
          record {
            kept = ap (λ v. v.items) w'.asked-is
                ∙ none_more_kept (is_up w) k xs c.loop-node.invariant.kept
                (sym c.is_up.ensures ∙ w'.if-is_up.false);
            none = ap (λ v. is_majority w.weights (named_in v.items)) w'.asked-is
                ∙ c.loop-node.invariant.none;
          }
    ]

pub returns-then-is_majority : goal.returns-then-is_majority
returns-then-is_majority c =
    let w = c.args.world.now.world in
    let k = c.loop-node.node in
    let xs = c.loop-node.asked.items in
    let pushed = c.push.ensures.items in
    let each = one_for_each c.args.world.now c.requires in
    let many = c.len-node-end.ensures.members in
    let weights = ap length c.weights-weights.ensures in
    let lt : k < length w.nodes = omega (arith, c.loop-node-test.true, many, weights, each) in
    let all : is_majority w.weights (named_in (xs ++ k ∷ [])) ≡ true =
    ap (λ l. is_majority w.weights (named_in l)) (sym pushed)
    ∙ ap (λ l. is_majority w.weights (named_in l)) (sym c.as_slice-then-is_up.ensures.value)
    ∙ ap (λ l. is_majority l (named_in c.as_slice-then-is_up.result.now))
    (sym (c.as_slice.ensures.weights ∙ c.weights-weights.ensures))
    ∙ sym c.is_majority.ensures ∙ c.if-is_majority.true in
    let n = asked_stops w k xs lt (sym c.is_up.ensures ∙ c.if-is_up.true)
    c.loop-node.invariant.kept c.loop-node.invariant.none all in
    (n.0, pushed ∙ n.1)

pub returns : goal.returns
returns c =
    let w = c.args.world.now.world in
    let xs = c.loop-node.asked.items in
    let each = one_for_each c.args.world.now c.requires in
    let many = c.len-node-end.ensures.members in
    let few = c.len-node-end.ensures.few in
    let weights = ap length c.weights-weights.ensures in
    let last : c.loop-node.node ≡ length w.nodes =
    omega (arith, c.loop-node-test.false, many, few, weights, each) in
    none_up w xs (c.loop-node.invariant.kept
    ∙ ap (λ n. filter (is_up w) (range_with_len 0 n)) last) c.loop-node.invariant.none
