-- Files that are given for packages.
use Rattle.std.proofs.Common.{◌≡◌, ◌<◌, ◌&&◌, ◌||◌, ◌+◌, ◌++◌, ℕ, Bool, true, false, List, [], ◌∷◌, Option, None, Some, length, map, take, get_or, refl, sym, ap, ◌∙◌, cond, eq-eqb}
use Rattle.std.proofs.lemmas.Bool.{and_parts}
use Rattle.std.proofs.lemmas.List.{length-map, map-append, take_more}
use Rattle.std.proofs.lemmas.List.Folds.{list_all-append, list_all-map, list_all_at}
use Rattle.std.specs.Prelude.{IfSome}
use Rattle.std.specs.List.{list_all}
use Rattle.std.specs.Str.{bytes_eq}
use Rattle.turn_rules.specs.Answering.{given_for, has_files}
use Rattle.faults.specs.Bytes.{Text, is_among}
use Rattle.listing.proofs.Settings.{eq_self}
use Rattle.package_record.specs.Content.{NamedFile}
use Rattle.protocol.specs.Given.{Given}
use Rattle.protocol.specs.Jobs.{are_given, files_for}

-- ---- these paths with their files

-- a test that follows from another holds of all that the other holds of
all_weaken : (P Q : Text → Bool) (xs : List Text)
    → ((t : Text) → P t ≡ true → Q t ≡ true) → list_all P xs ≡ true → list_all Q xs ≡ true
all_weaken P Q [] each e = refl
all_weaken P Q (x ∷ xs) each e =
    let parts = and_parts (P x) (list_all P xs) e in
    and_both (Q x) (list_all Q xs) (each x parts.0) (all_weaken P Q xs each parts.1)
  where
    and_both : (a b : Bool) → a ≡ true → b ≡ true → (a && b) ≡ true
    and_both true b e f = f
    and_both false b e f = e

-- each element is among the elements
among_selves : (xs : List Text) → list_all (is_among xs) xs ≡ true
among_selves [] = refl
among_selves (x ∷ xs) = first (bytes_eq x x) (eq_self x) (all_weaken (is_among xs)
    (is_among (x ∷ xs)) xs (λ t e. later (bytes_eq x t) (is_among xs t) e) (among_selves xs))
  where
    later : (a b : Bool) → b ≡ true → (a || b) ≡ true
    later true b e = refl
    later false b e = e

    first : (a : Bool) → a ≡ true → list_all (is_among (x ∷ xs)) xs ≡ true
        → ((a || is_among xs x) && list_all (is_among (x ∷ xs)) xs) ≡ true
    first true is rest = rest
    first false is rest = absurd (let no : false ≡ true = is in cc)

module _ (builds : Given) where
  -- the path, and its files
  abbrev pair : Text → Text × List NamedFile
  pair path = (path, files_for builds path)

  firsts : (paths : List Text) → map (λ g. g.0) (map pair paths) ≡ paths
  firsts [] = refl
  firsts (p ∷ ps) = ap (λ qs. p ∷ qs) (firsts ps)

  -- they are given for just these paths
  pairs_are_given : (paths : List Text) → are_given paths (map pair paths) ≡ true
  pairs_are_given paths = both _ _
      (eq-eqb (length (map pair paths)) (length paths) (length-map paths pair))
      (ap (λ ps. list_all (is_among ps) paths) (firsts paths) ∙ among_selves paths)
    where
      both : (a b : Bool) → a ≡ true → b ≡ true → (a && b) ≡ true
      both true b e f = f
      both false b e f = e

  pub given_are : (paths : List Text) (given : Given) → given_for builds paths ≡ Some given
      → are_given paths given ≡ true
  given_are paths given e = by (has_files builds paths) e
    where
      by : (b : Bool) → cond b (Some (map pair paths)) None ≡ Some given
          → are_given paths given ≡ true
      by true same =
          let known : map pair paths ≡ given = cc in
          ap (are_given paths) (sym known) ∙ pairs_are_given paths
      by false none = absurd (let no : None ≡ Some given = none in cc)

  -- ---- one more

  module _ {X : Type 0} (path_of : X → Text) (xs : List X) (i : ℕ) (d : X)
      (below : i < length xs) where
    -- the next element
    abbrev next : X
    next = get_or xs i d

    pub all_given : has_files builds (map path_of (take i xs)) ≡ true
        → is_among (map (λ g. g.0) builds) (path_of next) ≡ true
        → has_files builds (map path_of (take (i + 1) xs)) ≡ true
    all_given before now =
        ap (λ ys. has_files builds (map path_of ys)) (take_more xs i d below)
        ∙ (ap (has_files builds) (map-append path_of (take i xs) (next ∷ []))
        ∙ (list_all-append (is_among (map (λ g. g.0) builds)) (map path_of (take i xs))
        (path_of next ∷ [])
        ∙ both _ _ before now))
      where
        both : (a b : Bool) → a ≡ true → b ≡ true → (a && (b && true)) ≡ true
        both true true e f = refl
        both true false e f = f
        both false b e f = e

    pub pairs_more : (items : Given) → items ≡ map pair (map path_of (take i xs))
        → items ++ pair (path_of next) ∷ [] ≡ map pair (map path_of (take (i + 1) xs))
    pairs_more items before = sym (
        ap (λ ys. map pair (map path_of ys)) (take_more xs i d below)
        ∙ (ap (map pair) (map-append path_of (take i xs) (next ∷ []))
        ∙ (map-append pair (map path_of (take i xs)) (path_of next ∷ [])
        ∙ ap (λ ys. ys ++ pair (path_of next) ∷ []) (sym before))))

    -- if one path has no files, none are given
    pub some_lack : is_among (map (λ g. g.0) builds) (path_of next) ≡ false
        → given_for builds (map path_of xs) ≡ None
    some_lack lacks = ap (λ b. cond b (Some (map pair (map path_of xs))) None)
        (list_all-map (is_among (map (λ g. g.0) builds)) path_of xs
        ∙ list_all_at (λ y. is_among (map (λ g. g.0) builds) (path_of y)) xs i d below lacks)

  -- what is given is given for all paths
  pub whole_given : (paths : List Text) (o : Option Given) → o ≡ given_for builds paths
      → IfSome o (λ g. are_given paths g ≡ true)
  whole_given paths None e = tt
  whole_given paths (Some g) e = given_are paths g (sym e)
