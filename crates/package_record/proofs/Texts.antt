-- Lines, each ended by LF, one after the other.
use Rattle.std.proofs.Common.{◌≡◌, ℕ, ◌+◌, ◌<◌, List, [], ◌∷◌, ◌++◌, length, get_or, take, map, sym, ap, ◌∙◌, append_assoc}
use Rattle.std.specs.List.{flat_map}
use Rattle.std.proofs.lemmas.Grind.{flat_map-append}
use Rattle.std.proofs.lemmas.List.{map-append, take_more, append-nil}
use Rattle.faults.specs.Bytes.{Text}
use Rattle.package_record.specs.Content.{ended}

pub ended-append : (xs ys : List Text) → ended (xs ++ ys) ≡ ended xs ++ ended ys
unfolding ended
ended-append xs ys = flat_map-append (λ line. line ++ 10 ∷ []) xs ys

-- lines after lines
pub ended_more : (old mid new : Text) (xs ys : List Text) → mid ≡ old ++ ended xs → new ≡ mid ++ ended ys → new ≡ old ++ ended (xs ++ ys)
ended_more old mid new xs ys e f =
    f ∙ ap (λ (t : Text). t ++ ended ys) e ∙ append_assoc old (ended xs) (ended ys) ∙ ap (λ (t : Text). old ++ t) (sym (ended-append xs ys))

-- no lines
pub ended_none : (old : Text) → old ≡ old ++ ended []
unfolding ended
ended_none old = sym (append-nil old)

-- the list with one more of its items
taken_more : {X : Type 0} (xs : List X) (i : ℕ) (x : X) → i < length xs → x ≡ get_or xs i x → take (i + 1) xs ≡ take i xs ++ x ∷ []
taken_more xs i x lt e = take_more xs i x lt ∙ ap (λ y. take i xs ++ y ∷ []) (sym e)

-- the line of one more item
pub ended_next : {X : Type 0} (f : X → Text) (old mid new : Text) (xs : List X) (i : ℕ) (x : X) → i < length xs → x ≡ get_or xs i x
    → mid ≡ old ++ ended (map f (take i xs)) → new ≡ mid ++ ended (f x ∷ []) → new ≡ old ++ ended (map f (take (i + 1) xs))
ended_next f old mid new xs i x lt e before line =
    ended_more _ _ _ _ _ before line
    ∙ ap (λ (ls : List Text). old ++ ended ls) (sym (ap (map f) (taken_more xs i x lt e) ∙ map-append f (take i xs) (x ∷ [])))

-- the lines of one more item
pub ended_next_lines : {X Y : Type 0} (v : X → Y) (f : Y → List Text) (old mid new : Text) (xs : List X) (i : ℕ) (x : X) → i < length xs → x ≡ get_or xs i x
    → mid ≡ old ++ ended (flat_map f (map v (take i xs))) → new ≡ mid ++ ended (f (v x)) → new ≡ old ++ ended (flat_map f (map v (take (i + 1) xs)))
ended_next_lines v f old mid new xs i x lt e before lines =
    ended_more _ _ _ _ _ before lines
    ∙ ap (λ (ls : List Text). old ++ ended ls)
    (sym (ap (λ ys. flat_map f (map v ys)) (taken_more xs i x lt e) ∙ ap (flat_map f) (map-append v (take i xs) (x ∷ []))
    ∙ flat_map-append f (map v (take i xs)) (v x ∷ []) ∙ ap (λ (ls : List Text). flat_map f (map v (take i xs)) ++ ls) (append-nil (f (v x)))))

-- the lines of one more item, without a view
pub ended_next_seen : {X : Type 0} (f : X → List Text) (old mid new : Text) (xs : List X) (i : ℕ) (x : X) → i < length xs → x ≡ get_or xs i x
    → mid ≡ old ++ ended (flat_map f (take i xs)) → new ≡ mid ++ ended (f x) → new ≡ old ++ ended (flat_map f (take (i + 1) xs))
ended_next_seen f old mid new xs i x lt e before lines =
    ended_more _ _ _ _ _ before lines
    ∙ ap (λ (ls : List Text). old ++ ended ls)
    (sym (ap (flat_map f) (taken_more xs i x lt e) ∙ flat_map-append f (take i xs) (x ∷ []) ∙ ap (λ (ls : List Text). flat_map f (take i xs) ++ ls) (append-nil (f x))))
