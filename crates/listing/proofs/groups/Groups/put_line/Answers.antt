use Rattle.std.proofs.Common.{◌≡◌, ◌<◌, ◌++◌, ℕ, true, false, [], codes, length, nat_le, slice_get, Some, IfSome, option_map, unwrap_or, ap, sym, subst, ◌∙◌, arith, if◌then◌else◌}
use Rattle.std.specs.Map.{lookup}
use Rattle.std.specs.Map.Iter.{deref_pair}
use Rattle.std.specs.Str.{bytes_eq}
use Rattle.std.proofs.lemmas.Bool.Decides.{nat_tests}
use Rattle.std.proofs.lemmas.List.{get_or-map, length-map}
use Rattle.std.proofs.lemmas.Option.{get_or_from_slice_get}
use Rattle.faults.specs.Bytes.{Text}
use Rattle.faults.specs.Pieces.{in_order_of_appearance}
use Rattle.listing.specs.Digest.{line}
use Rattle.listing.specs.inside.Groups.{AreSizes, line_of_group, size_in, text_at}
use Rattle.listing.specs.inside.Hashing.{Takes}
use Rattle.listing.proofs.Feeding.{takes_nothing}
use Rattle.listing.proofs.groups.Groups.put_line.Goals as goal

pub unwrap-requires : goal.unwrap-requires
unwrap-requires c =
    let entries = c.self.inside.sizes.entries in
    let counted : AreSizes c.args.self.now entries = subst (λ ns. AreSizes ns entries) c.self.view_is c.self.invariant.counted in
    c.get_index.ensures.found.1 (omega (arith, c.requires, ap length counted.groups, length-map entries (λ (e : Text × ℕ). e.0)))

pub returns-then-size-lt-SEVERAL : goal.returns-then-size-lt-SEVERAL
returns-then-size-lt-SEVERAL c =
    let entries = c.self.inside.sizes.entries in
    let names = c.args.self.now in
    let place = c.args.place in
    let pair : Text × ℕ = (c.unwrap.result.0.now, c.unwrap.result.1.now) in
    let counted : AreSizes names entries = subst (λ ns. AreSizes ns entries) c.self.view_is c.self.invariant.counted in
    let within : place < length entries = omega (arith, c.requires, ap length counted.groups, length-map entries (λ (e : Text × ℕ). e.0)) in
    let read : slice_get entries place ≡ Some pair = sym c.get_index.ensures.entry ∙ ap (option_map deref_pair) c.unwrap.ensures in
    let key : text_at (in_order_of_appearance names) place ≡ pair.0 =
    ap (λ ks. text_at ks place) (sym counted.groups) ∙ get_or-map (λ (e : Text × ℕ). e.0) entries place pair [] within
    ∙ ap (λ (e : Text × ℕ). e.0) (get_or_from_slice_get entries place pair pair read) in
    let stored : lookup (bytes_eq pair.0) entries ≡ Some pair.1 =
    subst (λ r. IfSome r (λ p. lookup (bytes_eq p.0.now) entries ≡ Some p.1.now)) c.unwrap.ensures c.get_index.ensures.value in
    let size : size_in names pair.0 ≡ pair.1 = sym (counted.counts pair.0) ∙ ap (λ o. unwrap_or o 0) stored in
    let small : nat_le 2 (size_in names pair.0) ≡ false = grind (arith, nat_tests, size, c.if-size-lt-SEVERAL.true) in
    let none : line_of_group names (text_at (in_order_of_appearance names) place) ≡ [] =
    ap (line_of_group names) key ∙ ap (λ b. if b then line (codes "G " ++ pair.0) else []) small in
    subst (Takes c.args.hasher.now c.args.hasher.now) (sym none) (takes_nothing c.args.hasher.now)

pub returns : goal.returns
returns c =
    let entries = c.self.inside.sizes.entries in
    let names = c.args.self.now in
    let place = c.args.place in
    let pair : Text × ℕ = (c.unwrap.result.0.now, c.unwrap.result.1.now) in
    let counted : AreSizes names entries = subst (λ ns. AreSizes ns entries) c.self.view_is c.self.invariant.counted in
    let within : place < length entries = omega (arith, c.requires, ap length counted.groups, length-map entries (λ (e : Text × ℕ). e.0)) in
    let read : slice_get entries place ≡ Some pair = sym c.get_index.ensures.entry ∙ ap (option_map deref_pair) c.unwrap.ensures in
    let key : text_at (in_order_of_appearance names) place ≡ pair.0 =
    ap (λ ks. text_at ks place) (sym counted.groups) ∙ get_or-map (λ (e : Text × ℕ). e.0) entries place pair [] within
    ∙ ap (λ (e : Text × ℕ). e.0) (get_or_from_slice_get entries place pair pair read) in
    let stored : lookup (bytes_eq pair.0) entries ≡ Some pair.1 =
    subst (λ r. IfSome r (λ p. lookup (bytes_eq p.0.now) entries ≡ Some p.1.now)) c.unwrap.ensures c.get_index.ensures.value in
    let size : size_in names pair.0 ≡ pair.1 = sym (counted.counts pair.0) ∙ ap (λ o. unwrap_or o 0) stored in
    let large : nat_le 2 (size_in names pair.0) ≡ true = grind (arith, nat_tests, size, c.if-size-lt-SEVERAL.false) in
    let one : line_of_group names (text_at (in_order_of_appearance names) place) ≡ line (codes "G " ++ pair.0) =
    ap (line_of_group names) key ∙ ap (λ b. if b then line (codes "G " ++ pair.0) else []) large in
    subst (Takes c.args.hasher.now c.put.new.hasher) (ap (λ t. line (codes "G " ++ t)) c.as_bytes.ensures.text ∙ sym one) c.put.ensures
