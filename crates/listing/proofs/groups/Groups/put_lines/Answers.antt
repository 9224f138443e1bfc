use Rattle.std.proofs.Common.{◌≡◌, ◌<◌, ◌+◌, ◌++◌, ℕ, [], ◌∷◌, length, take, get_or, ap, sym, subst, ◌∙◌, arith}
use Rattle.std.specs.List.{flat_map}
use Rattle.std.proofs.lemmas.Grind.{flat_map-append}
use Rattle.std.proofs.lemmas.List.{append-nil, length-map, take_all, take_more}
use Rattle.faults.specs.Bytes.{Text}
use Rattle.faults.specs.Pieces.{in_order_of_appearance}
use Rattle.listing.specs.inside.Groups.{AreSizes, line_of_group}
use Rattle.listing.specs.inside.Hashing.{Takes}
use Rattle.listing.proofs.Feeding.{takes_more, takes_nothing}
use Rattle.listing.proofs.groups.Groups.put_lines.Goals as goal

pub put_line-requires : goal.put_line-requires
put_line-requires c =
    let entries = c.self.inside.sizes.entries in
    let counted : AreSizes c.args.self.now entries = subst (λ ns. AreSizes ns entries) c.self.view_is c.self.invariant.counted in
    omega (arith, c.loop-place-test.true, c.len-place-end.ensures.len, ap length counted.groups, length-map entries (λ (e : Text × ℕ). e.0))

pub loop-place-init : goal.loop-place-init
loop-place-init c = takes_nothing c.args.hasher.now

pub loop-place-preserved : goal.loop-place-preserved
loop-place-preserved c =
    let entries = c.self.inside.sizes.entries in
    let names = c.args.self.now in
    let groups = in_order_of_appearance names in
    let k = c.loop-place.place in
    let counted : AreSizes names entries = subst (λ ns. AreSizes ns entries) c.self.view_is c.self.invariant.counted in
    let within : k < length groups = omega (arith, c.loop-place-test.true, c.len-place-end.ensures.len, ap length counted.groups, length-map entries (λ (e : Text × ℕ). e.0)) in
    let more : flat_map (line_of_group names) (take (k + 1) groups) ≡ flat_map (line_of_group names) (take k groups) ++ line_of_group names (get_or groups k []) =
    ap (flat_map (line_of_group names)) (take_more groups k [] within) ∙ flat_map-append (line_of_group names) (take k groups) (get_or groups k [] ∷ [])
    ∙ ap (λ t. flat_map (line_of_group names) (take k groups) ++ t) (append-nil (line_of_group names (get_or groups k []))) in
    subst (Takes c.args.hasher.now c.put_line.new.hasher) (sym more)
    (takes_more c.args.hasher.now c.loop-place.hasher c.put_line.new.hasher (flat_map (line_of_group names) (take k groups)) (line_of_group names (get_or groups k []))
    c.loop-place.invariant c.put_line.ensures)

pub returns : goal.returns
returns c =
    let entries = c.self.inside.sizes.entries in
    let names = c.args.self.now in
    let groups = in_order_of_appearance names in
    let counted : AreSizes names entries = subst (λ ns. AreSizes ns entries) c.self.view_is c.self.invariant.counted in
    let end : take c.loop-place.place groups ≡ groups =
    take_all c.loop-place.place groups (omega (arith, c.loop-place-test.false, c.len-place-end.ensures.len, ap length counted.groups, length-map entries (λ (e : Text × ℕ). e.0))) in
    subst (λ gs. Takes c.args.hasher.now c.loop-place.hasher (flat_map (line_of_group names) gs)) end c.loop-place.invariant
