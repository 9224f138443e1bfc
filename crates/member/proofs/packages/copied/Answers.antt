use Rattle.std.proofs.Common.{◌∷◌, ◌++◌, ◌∙◌, [], ap, map, sym, take}
use Rattle.member.proofs.OneMore.{map_more}
use Rattle.member.proofs.packages.copied.Goals as goal

pub loop-path-preserved : goal.loop-path-preserved
loop-path-preserved c =
    let paths = c.args.paths.now in
    let k = c.loop-path.path-index in
    c.in_ok-push.ensures.items
    ∙ (ap (λ copies. copies ++ c.in_ok-copy.field-0 ∷ []) c.loop-path.invariant
    ∙ (ap (λ path. map (λ path. path.now) (take k paths) ++ path ∷ [])
    (c.in_ok-copy.ensures ∙ ap (λ path. path.now) c.path-item.is)
    ∙ sym (map_more (λ path. path.now) paths k c.path-item.result c.loop-path-test.true)))
