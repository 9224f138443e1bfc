-- Lists that are parsed or written item by item.
use Rattle.std.proofs.Common.{◌≡◌, ℕ, ◌+◌, ◌<◌, ◌≤◌, List, [], ◌∷◌, ◌++◌, length, get_or, map, take, drop, Option, None, Some, option_map, refl, sym, ap, ◌∙◌, append_assoc, append-nil}
use Rattle.std.proofs.lemmas.List.{drop_all, drop_more, map-append, take_all, take_more}
use Rattle.serde_json.specs.Data.{Data}
use Rattle.serde_json.specs.View.{items_view, view}
use Rattle.serde_json.specs.declared.value.Value.{Value}
use Rattle.traces.specs.Fields.{◌>>=◌, all_of}
use Rattle.traces.specs.declared.read_error.ReadError.{ReadError}
use Rattle.traces.specs.declared.read_error.ReadError.TheVariants.{Memory, Bad}
use Rattle.traces.specs.inside.Given.{Fails}

-- these items, and those after them, if they can be parsed
abbrev pub behind : {X : Type 0} → List X → Option (List X) → Option (List X)
behind done rest = option_map (λ xs. done ++ xs) rest

behind_more : {X : Type 0} (done : List X) (x : X) (o : Option (List X)) → behind done (option_map (λ xs. x ∷ xs) o) ≡ behind (done ++ x ∷ []) o
behind_more done x None = refl
behind_more done x (Some xs) = ap Some (sym (append_assoc done (x ∷ []) xs))

module _ {X : Type 0} (read : Data → Option X) (vs : List Value) where
  -- the items from the place on, parsed
  abbrev pub rest_from : ℕ → Option (List X)
  rest_from i = all_of read (items_view (drop i vs))

  at_place : (i : ℕ) (v : Value) → i < length vs → v ≡ get_or vs i v → rest_from i ≡ read (view v) >>= (λ x. option_map (λ xs. x ∷ xs) (rest_from (i + 1)))
  at_place i v lt is = ap (λ ws. all_of read (items_view ws)) (drop_more vs i v lt) ∙ ap (λ w. read (view w) >>= (λ x. option_map (λ xs. x ∷ xs) (rest_from (i + 1)))) (sym is)

  -- one more item
  pub all_more : (all : Option (List X)) (done : List X) (i : ℕ) (v : Value) (x : X) → i < length vs → v ≡ get_or vs i v → read (view v) ≡ Some x
      → all ≡ behind done (rest_from i) → all ≡ behind (done ++ x ∷ []) (rest_from (i + 1))
  all_more all done i v x lt is reads e =
      e ∙ ap (behind done) (at_place i v lt is ∙ ap (λ o. o >>= (λ y. option_map (λ xs. y ∷ xs) (rest_from (i + 1)))) reads) ∙ behind_more done x (rest_from (i + 1))

  -- an item that can't be parsed
  pub all_bad : (all : Option (List X)) (done : List X) (i : ℕ) (v : Value) (e : ReadError) → i < length vs → v ≡ get_or vs i v → Fails e (read (view v))
      → all ≡ behind done (rest_from i) → Fails e all
  all_bad all done i v Memory lt is bad e = tt
  all_bad all done i v Bad lt is bad e = e ∙ ap (behind done) (at_place i v lt is ∙ ap (λ o. o >>= (λ y. option_map (λ xs. y ∷ xs) (rest_from (i + 1)))) bad)

  -- no item is left
  pub all_done : (all : Option (List X)) (done : List X) (i : ℕ) → length vs ≤ i → all ≡ behind done (rest_from i) → all ≡ Some done
  all_done all done i le e = e ∙ ap (λ ws. behind done (all_of read (items_view ws))) (drop_all i vs le) ∙ ap Some (append-nil done)

module _ {A B W : Type 0} (view : A → W) (write : B → W) where
  -- one more item of a list is written
  pub written_more : (done : List A) (xs : List B) (i : ℕ) (v : A) (x d : B) → i < length xs → x ≡ get_or xs i d → view v ≡ write x
      → map view done ≡ map write (take i xs) → map view (done ++ v ∷ []) ≡ map write (take (i + 1) xs)
  written_more done xs i v x d lt is writes e =
      rw (map-append view done (v ∷ []), take_more xs i d lt, map-append write (take i xs) (get_or xs i d ∷ []), ← is, e, writes) refl

  -- likewise with a view of each item
  pub seen_more : {C : Type 0} (see : C → B) (done : List A) (xs : List C) (i : ℕ) (v : A) (x : C) → i < length xs → x ≡ get_or xs i x → view v ≡ write (see x)
      → map view done ≡ map write (map see (take i xs)) → map view (done ++ v ∷ []) ≡ map write (map see (take (i + 1) xs))
  seen_more see done xs i v x lt is writes e =
      let taken : take (i + 1) xs ≡ take i xs ++ x ∷ [] = take_more xs i x lt ∙ ap (λ y. take i xs ++ y ∷ []) (sym is) in
      rw (map-append view done (v ∷ []), taken, map-append see (take i xs) (x ∷ []), map-append write (map see (take i xs)) (see x ∷ []), e, writes) refl

  -- the whole list is written when the place is its end
  pub written_all : (done : List A) (xs : List B) (i : ℕ) → length xs ≤ i → map view done ≡ map write (take i xs) → map view done ≡ map write xs
  written_all done xs i le e = e ∙ ap (map write) (take_all i xs le)

  -- likewise with a view of each item
  pub seen_all : {C : Type 0} (see : C → B) (done : List A) (xs : List C) (i : ℕ) → length xs ≤ i → map view done ≡ map write (map see (take i xs)) → map view done ≡ map write (map see xs)
  seen_all see done xs i le e = e ∙ ap (λ ys. map write (map see ys)) (take_all i xs le)
