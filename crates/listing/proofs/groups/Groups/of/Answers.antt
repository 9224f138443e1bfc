use Rattle.std.proofs.Common.{◌≡◌, ◌<◌, ◌+◌, ◌++◌, ◌∷◌, [], List, length, map, take, ap, sym, subst, ◌∙◌, arith}
use Rattle.std.proofs.lemmas.List.{length-map, length-take-le, map_push, take_all, take_more}
use Rattle.faults.specs.Bytes.{Text}
use Rattle.listing.specs.Rules.{group_by}
use Rattle.listing.specs.inside.Groups.{AreGroups}
use Rattle.listing.proofs.Counting.{groups_more, groups_none}
use Rattle.listing.proofs.groups.Groups.of.Goals as goal

pub loop-path-init : goal.loop-path-init
loop-path-init c =
    subst (AreGroups [] c.new-sizes.result.entries) (sym c.in_ok-places.ensures.items) (groups_none c.new-sizes.result.entries c.new-sizes.ensures.empty)

pub count-requires : goal.count-requires
count-requires c =
    let paths = c.args.paths.now in
    let k = c.loop-path.path-index in
    let within : k < length paths = c.loop-path-test.true in
    let names : List Text = map (group_by c.args.is_single) (take k paths) in
    (names, c.loop-path.invariant.counted, omega (arith, within, c.requires, length-map (take k paths) (group_by c.args.is_single), length-take-le k paths (omega (arith, within))))

pub loop-path-preserved : goal.loop-path-preserved
loop-path-preserved c =
    let paths = c.args.paths.now in
    let k = c.loop-path.path-index in
    let within : k < length paths = c.loop-path-test.true in
    let gb : Text → Text = group_by c.args.is_single in
    let names : List Text = map gb (take k paths) in
    let group = c.in_ok-group.group in
    let is : group ≡ gb c.path-item.result = c.in_ok-group.ensures in
    let counted = c.in_ok-place.ensures names c.loop-path.invariant.counted in
    let more : names ++ group ∷ [] ≡ map gb (take (k + 1) paths) =
    ap (λ g. names ++ g ∷ []) is
    ∙ sym (ap (map gb) (take_more paths k c.path-item.result within ∙ ap (λ p. take k paths ++ p ∷ []) (sym c.path-item.is)) ∙ map_push gb (take k paths) c.path-item.result) in
    subst (λ ns. AreGroups ns c.count.new.sizes.entries c.push.new.self.items) more
    (subst (AreGroups (names ++ group ∷ []) c.count.new.sizes.entries) (sym c.in_ok-push.ensures.items)
    (groups_more names group c.loop-path.sizes.entries c.count.new.sizes.entries c.loop-path.places.items c.in_ok-place.place c.loop-path.invariant counted.0 counted.1 counted.2))

pub invariant_of-result : goal.invariant_of-result
invariant_of-result c =
    subst (λ names. AreGroups names c.loop-path.sizes.entries c.loop-path.places.items) (sym c.loop-path.invariant.placed.are) c.loop-path.invariant

pub returns : goal.returns
returns c =
    let paths = c.args.paths.now in
    let whole : take c.loop-path.path-index paths ≡ paths = take_all c.loop-path.path-index paths (omega (arith, c.loop-path-test.false)) in
    c.loop-path.invariant.placed.are ∙ ap (map (group_by c.args.is_single)) whole
