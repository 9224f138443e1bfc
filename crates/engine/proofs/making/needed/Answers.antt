use Rattle.std.proofs.Common.{◌≡◌, ◌++◌, get_or, filter, not, ◌∙◌, ap, arith}
use Rattle.std.proofs.lemmas.List.{get_or_default, take_all}
use Rattle.std.proofs.lemmas.List.Elements.{Contains-get_or}
use Rattle.std.proofs.lemmas.List.Filters.{dedup_is}
use Rattle.engine.proofs.OneUnit.{needed_is, turn_more}
use Rattle.engine.specs.Units.{is_in}
use Rattle.engine.specs.inside.UnitKeeping.{needs_in_turn}
use Rattle.engine.proofs.making.needed.Goals as goal

pub build_deps-requires : goal.build_deps-requires
build_deps-requires c =
    let ps = c.args.packages.now in
    c.requires.alike.listed (get_or ps c.loop-position.position-index 0) (Contains-get_or ps c.loop-position.position-index 0 c.loop-position-test.true)

pub loop-position-preserved : goal.loop-position-preserved
loop-position-preserved c =
    let ps = c.args.packages.now in
    let k = c.loop-position.position-index in
    let p = get_or ps k 0 in
    let before = c.loop-position.needed.items in
    turn_more c.args.tree.now ps ps k p before c.add_others.new.needed.items c.loop-position-test.true (get_or_default ps k 0 p c.loop-position-test.true)
    c.loop-position.invariant (c.in_ok-add_others.ensures ∙ ap (λ xs. before ++ filter (λ d. not (is_in ps d)) xs) c.build_deps.ensures.value)

pub returns : goal.returns
returns c =
    let ps = c.args.packages.now in
    let tree = c.args.tree.now in
    let found = c.loop-position.needed.items in
    let sorted = c.sort_unstable.new.self.items in
    let whole : found ≡ needs_in_turn tree ps ps =
    c.loop-position.invariant ∙ ap (needs_in_turn tree ps) (take_all c.loop-position.position-index ps (omega (arith, c.loop-position-test.false))) in
    dedup_is _ sorted c.dedup.new.self.items c.dedup.ensures.filtered
    ∙ needed_is tree ps found sorted c.requires.is_tree c.requires.alike.listed whole c.sort_unstable.ensures.permutation c.sort_unstable.ensures.sorted
