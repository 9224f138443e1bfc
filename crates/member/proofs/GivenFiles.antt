-- Files by path, and whether they are exactly those of a unit's packages.
use Rattle.std.proofs.Common.{◌≡◌, ◌&&◌, ◌||◌, ◌++◌, ℕ, Bool, true, false, cond, List, []}
use Rattle.std.proofs.Common.{◌∷◌, length, map, Option, None, Some, option_map, refl, sym, ap, ◌∙◌}
use Rattle.std.proofs.Common.{eq-eqb}
use Rattle.std.proofs.lemmas.List.{length-map}
use Rattle.engine.specs.Tree.{Tree, path_at}
use Rattle.std.specs.Prelude.{find, is_some, unwrap_or}
use Rattle.std.specs.List.{list_all}
use Rattle.std.specs.Map.{lookup}
use Rattle.std.specs.Str.{bytes_eq}
use Rattle.std.proofs.lemmas.Bool.{true≢false}
use Rattle.faults.specs.Answers.{option_or}
use Rattle.faults.specs.Bytes.{Text, is_among}
use Rattle.engine.proofs.Settings.{eq_flip, same_text}
use Rattle.package_record.specs.Content.{NamedFile}
use Rattle.protocol.specs.Given.{Given}
use Rattle.protocol.specs.Jobs.{are_given, files_for}
use Rattle.member.specs.inside.Packages.{files_at, have_files}

-- an element at the end is found if there is none before it
found_behind : {X : Type 0} (test : Text → Bool) (es : List (Text × X)) (path : Text) (x : X)
    → lookup test (es ++ (path, x) ∷ []) ≡ option_or (lookup test es)
    (cond (test path) (Some x) None)
found_behind test [] path x = refl
found_behind {X} test (e ∷ es) path x = by_test (test e.0) (found_behind test es path x)
  where
    by_test : (b : Bool) → lookup test (es ++ (path, x) ∷ [])
        ≡ option_or (lookup test es) (cond (test path) (Some x) None)
        → cond b (Some e.1) (lookup test (es ++ (path, x) ∷ []))
        ≡ option_or (cond b (Some e.1) (lookup test es)) (cond (test path) (Some x) None)
    by_test true rest = refl
    by_test false rest = rest

module _ (given : Given) (path : Text) (files : List NamedFile) where
  abbrev more : Given
  more = given ++ (path, files) ∷ []

  -- files for a path that has some already change nothing
  pub given_again : is_some (files_at given path) ≡ true → (q : Text)
      → files_at more q ≡ files_at given q
  given_again has q =
      found_behind (bytes_eq q) given path files ∙ by_test (bytes_eq q path) refl
    where
      some_before : (o : Option (List NamedFile)) (other : Option (List NamedFile))
          → is_some o ≡ true → option_or o other ≡ o
      some_before None other e = absurd (true≢false (sym e))
      some_before (Some x) other e = refl

      none_behind : (o : Option (List NamedFile)) → option_or o None ≡ o
      none_behind None = refl
      none_behind (Some x) = refl

      by_test : (b : Bool) → bytes_eq q path ≡ b
          → option_or (files_at given q) (cond b (Some files) None) ≡ files_at given q
      by_test false e = none_behind (files_at given q)
      by_test true e =
          some_before (files_at given q) (Some files)
          (ap (λ t. is_some (files_at given t)) (same_text q path e) ∙ has)

  -- the first files for a path are found
  pub given_first : is_some (files_at given path) ≡ false → (q : Text)
      → files_at more q ≡ cond (bytes_eq path q) (Some files) (files_at given q)
  given_first none q =
      found_behind (bytes_eq q) given path files
      ∙ (ap (λ b. option_or (files_at given q) (cond b (Some files) None)) (eq_flip q path)
      ∙ by_test (bytes_eq path q) refl)
    where
      is_none : (o : Option (List NamedFile)) (other : Option (List NamedFile))
          → is_some o ≡ false → option_or o other ≡ other
      is_none None other e = refl
      is_none (Some x) other e = absurd (true≢false e)

      none_behind : (o : Option (List NamedFile)) → option_or o None ≡ o
      none_behind None = refl
      none_behind (Some x) = refl

      by_test : (b : Bool) → bytes_eq path q ≡ b
          → option_or (files_at given q) (cond b (Some files) None)
          ≡ cond b (Some files) (files_at given q)
      by_test false e = none_behind (files_at given q)
      by_test true e =
          is_none (files_at given q) (Some files)
          (ap (λ t. is_some (files_at given t)) (sym (same_text path q e)) ∙ none)

-- the files found for a path are those of its first occurrence
found_files : (given : Given) (path : Text)
    → option_map (λ (g : Text × List NamedFile). g.1) (find (λ g. bytes_eq g.0 path) given)
    ≡ files_at given path
found_files [] path = refl
found_files (g ∷ gs) path =
    ap (λ b. option_map (λ (g : Text × List NamedFile). g.1)
    (cond b (Some g) (find (λ g. bytes_eq g.0 path) gs))) (eq_flip g.0 path)
    ∙ by_test (bytes_eq path g.0) (found_files gs path)
  where
    by_test : (b : Bool)
        → option_map (λ (g : Text × List NamedFile). g.1) (find (λ g. bytes_eq g.0 path) gs)
        ≡ files_at gs path
        → option_map (λ (g : Text × List NamedFile). g.1)
        (cond b (Some g) (find (λ g. bytes_eq g.0 path) gs))
        ≡ cond b (Some g.1) (files_at gs path)
    by_test true rest = refl
    by_test false rest = rest

pub files_are_found : (given : Given) (path : Text)
    → files_for given path ≡ unwrap_or (files_at given path) []
files_are_found given path = ap (λ o. unwrap_or o []) (found_files given path)

-- a path that has files is among those that are given
pub is_given : (given : Given) (path : Text)
    → is_among (map (λ g. g.0) given) path ≡ is_some (files_at given path)
is_given [] path = refl
is_given (g ∷ gs) path =
    ap (λ b. b || is_among (map (λ g. g.0) gs) path) (eq_flip g.0 path)
    ∙ by_test (bytes_eq path g.0) (is_given gs path)
  where
    by_test : (b : Bool) → is_among (map (λ g. g.0) gs) path ≡ is_some (files_at gs path)
        → (b || is_among (map (λ g. g.0) gs) path) ≡ is_some (cond b (Some g.1) (files_at gs path))
    by_test true rest = refl
    by_test false rest = rest

-- files are given for exactly these packages if each has files, and the numbers agree
all_given : (tree : Tree) (given : Given) (ps : List ℕ)
    → list_all (is_among (map (λ g. g.0) given)) (map (path_at tree) ps)
    ≡ have_files tree (files_at given) ps
all_given tree given [] = refl
all_given tree given (p ∷ ps) =
    λ i. is_given given (path_at tree p) i && all_given tree given ps i

pub given_for_just : (tree : Tree) (given : Given) (ps : List ℕ) → length given ≡ length ps
    → are_given (map (path_at tree) ps) given ≡ have_files tree (files_at given) ps
given_for_just tree given ps many =
    ap (λ b. b && list_all (is_among (map (λ g. g.0) given)) (map (path_at tree) ps))
    (eq-eqb (length given) (length (map (path_at tree) ps))
    (many ∙ sym (length-map ps (path_at tree))))
    ∙ all_given tree given ps
