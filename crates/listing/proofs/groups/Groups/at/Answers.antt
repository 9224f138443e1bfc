use Rattle.std.proofs.Common.{◌≡◌, ◌<◌, ℕ, [], length, get_or, slice_get, Some, option_map, ap, sym, ◌∙◌, arith}
use Rattle.std.specs.Map.{keys_of}
use Rattle.std.specs.Map.Iter.{deref_pair}
use Rattle.std.proofs.lemmas.List.{get_or-map, length-map}
use Rattle.std.proofs.lemmas.List.Elements.{All-get_or}
use Rattle.std.proofs.lemmas.Option.{get_or_from_slice_get}
use Rattle.faults.specs.Bytes.{Text}
use Rattle.listing.specs.inside.Groups.{names_in, text_at}
use Rattle.listing.proofs.groups.Groups.at.Goals as goal

pub index-place-requires : goal.index-place-requires
index-place-requires c =
    omega (arith, c.requires, ap length c.self.view_is, length-map c.self.inside.places.items (text_at (keys_of c.self.inside.sizes.entries)), c.self.inside.places.ok.0)

pub unwrap-requires : goal.unwrap-requires
unwrap-requires c =
    let entries = c.self.inside.sizes.entries in
    let places = c.self.inside.places.items in
    let place = c.index-place.result.now in
    let here : c.args.position < length places = omega (arith, c.requires, ap length c.self.view_is, length-map places (text_at (keys_of entries))) in
    let among : get_or places c.args.position place < length (keys_of entries) =
    All-get_or (λ n. n < length (keys_of entries)) places c.args.position place here c.self.invariant.placed.within in
    let is : place ≡ get_or places c.args.position place = c.index-place.ensures in
    c.get_index.ensures.found.1 (omega (arith, among, is, length-map entries (λ (e : Text × ℕ). e.0)))

pub returns : goal.returns
returns c =
    let entries = c.self.inside.sizes.entries in
    let places = c.self.inside.places.items in
    let place = c.index-place.result.now in
    let here : c.args.position < length places = omega (arith, c.requires, ap length c.self.view_is, length-map places (text_at (keys_of entries))) in
    let among : get_or places c.args.position place < length (keys_of entries) =
    All-get_or (λ n. n < length (keys_of entries)) places c.args.position place here c.self.invariant.placed.within in
    let is : place ≡ get_or places c.args.position place = c.index-place.ensures in
    let within : place < length entries = omega (arith, among, is, length-map entries (λ (e : Text × ℕ). e.0)) in
    let pair : Text × ℕ = (c.unwrap.result.0.now, c.unwrap.result.1.now) in
    let read : slice_get entries place ≡ Some pair = sym c.get_index.ensures.entry ∙ ap (option_map deref_pair) c.unwrap.ensures in
    let key : text_at (keys_of entries) place ≡ pair.0 =
    get_or-map (λ (e : Text × ℕ). e.0) entries place pair [] within ∙ ap (λ (e : Text × ℕ). e.0) (get_or_from_slice_get entries place pair pair read) in
    let name : text_at (names_in entries places) c.args.position ≡ text_at (keys_of entries) place =
    get_or-map (text_at (keys_of entries)) places c.args.position place [] here ∙ ap (text_at (keys_of entries)) (sym is) in
    sym key ∙ sym name ∙ ap (λ ns. text_at ns c.args.position) c.self.view_is
