-- The datagram at a place, if each receiver gets all of them.
use Rattle.std.proofs.Common.{◌≡◌, ◌+◌, ◌*◌, ◌/◌, ◌%◌, ◌<◌, ◌++◌, ℕ, zero, suc, List, [], ◌∷◌, Option, None, Some, arith, length, refl, ap, sym, ◌∙◌, option_map, slice_get, ◌≤◌, get_or, Vec}
use Rattle.std.proofs.lemmas.List.{length-map}
use Rattle.std.proofs.lemmas.Nat.{div-add-mod'}
use Rattle.std.proofs.lemmas.Option.{slice_get-get_or, slice_get-map, slice_get_past}
use Rattle.std.specs.declared.alloc.Global.{Global}
use Rattle.faults.specs.Bytes.{Text}
use Rattle.node.specs.Parcels.{each_to, parcels_to, texts_in}

-- in the first part
get_left : {X : Type 0} (xs ys : List X) (j : ℕ) → j < length xs → slice_get (xs ++ ys) j ≡ slice_get xs j
get_left [] ys j lt = absurd (omega arith)
get_left (x ∷ xs) ys zero lt = refl
get_left (x ∷ xs) ys (suc j) lt = get_left xs ys j (omega arith)

-- after the first part
get_right : {X : Type 0} (xs ys : List X) (i k : ℕ) → i ≡ length xs + k → slice_get (xs ++ ys) i ≡ slice_get ys k
get_right [] ys i k e = let same : i ≡ k = omega arith in ap (slice_get ys) same
get_right (x ∷ xs) ys zero k e = absurd (omega arith)
get_right (x ∷ xs) ys (suc i) k e = get_right xs ys i k (omega arith)

-- the datagram with its receiver, if there is one
abbrev pub placed : List Text → ℕ → Option ℕ → Option (ℕ × Text)
placed texts j None = None
placed texts j (Some to) = option_map (λ text. (to, text)) (slice_get texts j)

placed_at : (receivers : List ℕ) (texts : List Text) (i q j : ℕ) → i ≡ q * length texts + j → j < length texts
    → slice_get (parcels_to receivers texts) i ≡ placed texts j (slice_get receivers q)
placed_at [] texts i q j e lt = refl
placed_at (r ∷ rs) texts i zero j e lt =
    let same : i ≡ j = omega arith in
    ap (slice_get (parcels_to (r ∷ rs) texts)) same
    ∙ get_left (each_to texts r) (parcels_to rs texts) j (let n : length (each_to texts r) ≡ length texts = length-map texts (λ text. (r, text)) in omega arith)
    ∙ slice_get-map (λ text. (r, text)) texts j
placed_at (r ∷ rs) texts i (suc q) j e lt =
    let n : length (each_to texts r) ≡ length texts = length-map texts (λ text. (r, text)) in
    get_right (each_to texts r) (parcels_to rs texts) i (q * length texts + j) (omega arith)
    ∙ placed_at rs texts (q * length texts + j) q j refl lt

-- the element at a place, by receiver and datagram
pub parcel_at : (receivers : List ℕ) (texts : List Text) (place : ℕ) → 0 < length texts
    → slice_get (parcels_to receivers texts) place ≡ placed texts (place % length texts) (slice_get receivers (place / length texts))
parcel_at receivers texts place some =
    placed_at receivers texts place (place / length texts) (place % length texts) (sym (div-add-mod' place (length texts))) (omega arith)

-- without datagrams there is nothing at any place
pub none_without : (receivers : List ℕ) (texts : List Text) (place : ℕ) → length texts ≡ 0 → slice_get (parcels_to receivers texts) place ≡ None
none_without [] texts place e = refl
none_without (r ∷ rs) [] place e = none_without rs [] place e
none_without (r ∷ rs) (t ∷ ts) place e = absurd (omega arith)

-- there is nothing after the last receiver
pub none_behind : (receivers : List ℕ) (texts : List (Vec ℕ Global)) (count place : ℕ) → count ≡ length texts → 0 < count → length receivers ≤ place / count
    → slice_get (parcels_to receivers (texts_in texts)) place ≡ None
none_behind receivers texts count place e some past =
    let n : count ≡ length (texts_in texts) = e ∙ sym (length-map texts (λ t. t.items)) in
    let past_all = slice_get_past receivers (place / length (texts_in texts)) (rw (← n) past) in
    parcel_at receivers (texts_in texts) place (omega arith) ∙ ap (placed (texts_in texts) (place % length (texts_in texts))) past_all

-- the receiver and the datagram at a place
pub one_stands : (receivers : List ℕ) (texts : List (Vec ℕ Global)) (count place to : ℕ) (text : Vec ℕ Global) → count ≡ length texts → 0 < count
    → place / count < length receivers → to ≡ get_or receivers (place / count) to → place % count < length texts → text ≡ get_or texts (place % count) text
    → Some (to, text.items) ≡ slice_get (parcels_to receivers (texts_in texts)) place
one_stands receivers texts count place to text e some lt is within stands =
    let n : length (texts_in texts) ≡ count = length-map texts (λ t. t.items) ∙ sym e in
    let first : slice_get receivers (place / count) ≡ Some to = slice_get-get_or receivers (place / count) to lt ∙ ap Some (sym is) in
    let second : slice_get (texts_in texts) (place % count) ≡ Some text.items = slice_get-map (λ t. t.items) texts (place % count) ∙ ap (option_map (λ t. t.items)) (slice_get-get_or texts (place % count) text within ∙ ap Some (sym stands)) in
    sym (parcel_at receivers (texts_in texts) place (omega arith) ∙ rw (n, first, second) refl)
