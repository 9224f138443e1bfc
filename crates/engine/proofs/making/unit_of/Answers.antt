use Rattle.std.proofs.Common.{◌≡◌, ◌∙◌, arith, length, ap}
use Rattle.engine.specs.Units.{in_order_of_path}
use Rattle.engine.specs.inside.UnitKeeping.{needed_by}
use Rattle.engine.proofs.OneUnit.{alone_kept, kept, several_kept}
use Rattle.engine.proofs.making.unit_of.Goals as goal

pub returns-then-len-eq1 : goal.returns-then-len-eq1
returns-then-len-eq1 c =
    let one : length c.args.packages.items ≡ 1 = omega (arith, c.if-len-eq1.true, c.len.ensures, c.args.packages.ok) in
    alone_kept c.args.tree.now c.args.packages.items c.new.result.items c.requires.is_tree c.requires.alike one

pub returns : goal.returns
returns c =
    let tree = c.args.tree.now in
    let packages = c.in_ok-packages.ensures ∙ ap (in_order_of_path tree) c.as_slice-2.ensures.value in
    let build = c.in_ok-build.ensures ∙ ap (needed_by tree) c.as_slice.ensures.value in
    (λ i. kept tree (packages i) (build i))
    ∙ several_kept tree c.args.packages.items c.requires.is_tree c.requires.alike (λ one. c.if-len-eq1.false (omega (arith, one, c.len.ensures, c.args.packages.ok)))
