-- Files for exactly some paths, each once.
use Rattle.std.proofs.Common.{◌≡◌, ◌+◌, ◌||◌, ◌&&◌, ℕ, zero, suc, Bool, true, false, cond, List, [], ◌∷◌, length, map, Option, Some, None, Less, Equal, Greater, option_map, refl, sym, ap, subst, ◌∙◌, arith}
use Rattle.std.specs.Prelude.{All, find, unwrap_or}
use Rattle.std.specs.List.{list_all}
use Rattle.std.specs.Ordering.{is_eq, is_lt}
use Rattle.std.specs.declared.cmp.Ordering.{Ordering}
use Rattle.std.specs.Str.{bytes_eq}
use Rattle.std.proofs.lemmas.Bool.{and_parts, true≢false}
use Rattle.std.proofs.lemmas.List.Elements.{All-cons, All-nil}
use Rattle.std.proofs.lemmas.Map.Text.{is_eq-slice_cmp}
use Rattle.std.proofs.lemmas.Slice.Eq.{bytes_eq-Decides}
use Rattle.claims.specs.Deps.{is_ascending}
use Rattle.faults.specs.Bytes.{Text, is_among}
use Rattle.faults.specs.Pieces.{text_cmp}
use Rattle.package_record.specs.Content.{NamedFile}
use Rattle.protocol.specs.Given.{Given}
use Rattle.protocol.specs.Jobs.{files_for}

-- no path occurs twice
abbrev pub AreApart : List Text → Type 0
AreApart [] = Prim.Unit {0}
AreApart (p ∷ ps) = ((q : Text) → is_among ps q ≡ true → bytes_eq p q ≡ false) × AreApart ps

-- the paths for which there are files
abbrev pub paths_in : Given → List Text
paths_in given = map (λ g. g.0) given

-- the files without the first entry of this path
abbrev without : Text → Given → Given
without path [] = []
without path (g ∷ gs) = cond (bytes_eq g.0 path) gs (g ∷ without path gs)

-- there is one entry less
one_less : (path : Text) (given : Given) → is_among (paths_in given) path ≡ true
    → length given ≡ suc (length (without path given))
one_less path [] among = absurd (true≢false (sym among))
one_less path (g ∷ gs) among = by (bytes_eq g.0 path) among (one_less path gs)
  where
    by : (b : Bool) → (b || is_among (paths_in gs) path) ≡ true
        → (is_among (paths_in gs) path ≡ true → length gs ≡ suc (length (without path gs)))
        → suc (length gs) ≡ suc (length (cond b gs (g ∷ without path gs)))
    by true among rest = refl
    by false among rest = ap suc (rest among)

-- the files of this entry, or else of what is found
abbrev found_by : Text × List NamedFile → Bool → Option (Text × List NamedFile) → List NamedFile
found_by g c o = unwrap_or (option_map (λ g. g.1) (cond c (Some g) o)) []

-- another path still has an entry, with the files that it had
module _ (path other : Text) (apart : bytes_eq path other ≡ false) where
  not_both : (g : Text × List NamedFile) → bytes_eq g.0 path ≡ true → bytes_eq g.0 other ≡ false
  not_both g is = ap (λ t. bytes_eq t other) ((bytes_eq-Decides g.0 path).0 is) ∙ apart

  still_among : (given : Given) → is_among (paths_in given) other
      ≡ is_among (paths_in (without path given)) other
  still_among [] = refl
  still_among (g ∷ gs) = by (bytes_eq g.0 path) refl (still_among gs)
    where
      by : (b : Bool) → bytes_eq g.0 path ≡ b
          → is_among (paths_in gs) other ≡ is_among (paths_in (without path gs)) other
          → (bytes_eq g.0 other || is_among (paths_in gs) other)
          ≡ is_among (paths_in (cond b gs (g ∷ without path gs))) other
      by true is rest = ap (λ c. c || is_among (paths_in gs) other) (not_both g is)
      by false is rest = ap (λ c. bytes_eq g.0 other || c) rest

  same_files : (given : Given) → files_for given other ≡ files_for (without path given) other
  same_files [] = refl
  same_files (g ∷ gs) = by (bytes_eq g.0 path) refl (same_files gs)
    where
      behind : (c : Bool) → files_for gs other ≡ files_for (without path gs) other
          → found_by g c (find (λ g. bytes_eq g.0 other) gs)
          ≡ found_by g c (find (λ g. bytes_eq g.0 other) (without path gs))
      behind true e = refl
      behind false e = e

      by : (b : Bool) → bytes_eq g.0 path ≡ b
          → files_for gs other ≡ files_for (without path gs) other
          → files_for (g ∷ gs) other ≡ files_for (cond b gs (g ∷ without path gs)) other
      by true is rest = ap (λ c. found_by g c (find (λ g. bytes_eq g.0 other) gs)) (not_both g is)
      by false is rest = behind (bytes_eq g.0 other) rest

eq_self : (a : Text) → bytes_eq a a ≡ true
eq_self a = (bytes_eq-Decides a a).1 refl

or_right : (a b : Bool) → b ≡ true → (a || b) ≡ true
or_right true b e = refl
or_right false b e = e

module _ (Good : List NamedFile → Type 0) where
  abbrev AreGood : Given → Type 0
  AreGood given = All (λ g. Good g.1) given

  -- if the files of the first entry of a path are good, and those of all other entries, all are
  one_more : (path : Text) (given : Given) → is_among (paths_in given) path ≡ true
      → Good (files_for given path) → AreGood (without path given) → AreGood given
  one_more path [] among good rest = All-nil (λ g. Good g.1)
  one_more path (g ∷ gs) among good rest =
      by (bytes_eq g.0 path) among good rest (one_more path gs)
    where
      by : (b : Bool) → (b || is_among (paths_in gs) path) ≡ true
          → Good (unwrap_or (option_map (λ g. g.1)
          (cond b (Some g) (find (λ g. bytes_eq g.0 path) gs))) [])
          → AreGood (cond b gs (g ∷ without path gs))
          → (is_among (paths_in gs) path ≡ true → Good (files_for gs path)
          → AreGood (without path gs) → AreGood gs)
          → AreGood (g ∷ gs)
      by true among good rest next = All-cons (λ g. Good g.1) g gs good rest
      by false among good rest next =
          All-cons (λ g. Good g.1) g gs (rest zero g (omega arith))
          (next among good (λ k d lt. rest (suc k) d (omega (arith, lt))))

  -- If there are files for exactly these paths, and those for each of them are good, all are.
  pub all_good : (paths : List Text) (given : Given) → AreApart paths
      → length given ≡ length paths
      → ((q : Text) → is_among paths q ≡ true → is_among (paths_in given) q ≡ true)
      → ((q : Text) → is_among paths q ≡ true → Good (files_for given q)) → AreGood given
  all_good [] [] apart many among good = All-nil (λ g. Good g.1)
  all_good [] (g ∷ gs) apart many among good = absurd (omega (arith, many))
  all_good (p ∷ ps) given apart many among good =
      let here : is_among (p ∷ ps) p ≡ true = ap (λ b. b || is_among ps p) (eq_self p) in
      let less = one_less p given (among p here) in
      one_more p given (among p here) (good p here)
      (all_good ps (without p given) apart.1 (omega (arith, many, less))
      (λ q in_ps. sym (still_among p q (apart.0 q in_ps) given) ∙ among q (behind q in_ps))
      (λ q in_ps. subst Good (same_files p q (apart.0 q in_ps) given) (good q (behind q in_ps))))
    where
      behind : (q : Text) → is_among ps q ≡ true → is_among (p ∷ ps) q ≡ true
      behind q in_ps = or_right (bytes_eq p q) (is_among ps q) in_ps

-- ---- paths in ascending order

-- a text that is below another is different
below_is_other : (t u : Text) → is_lt (text_cmp t u) ≡ true → bytes_eq t u ≡ false
below_is_other t u below = sym (is_eq-slice_cmp t u) ∙ by (text_cmp t u) below
  where
    by : (o : Ordering) → is_lt o ≡ true → is_eq o ≡ false
    by Less e = refl
    by Equal e = absurd (true≢false (sym e))
    by Greater e = refl

-- a text that is below all later ones is different from each
others_behind : (t : Text) (us : List Text) (q : Text)
    → list_all (λ u. is_lt (text_cmp t u)) us ≡ true → is_among us q ≡ true → bytes_eq t q ≡ false
others_behind t [] q below among = absurd (true≢false (sym among))
others_behind t (u ∷ us) q below among =
    let parts = and_parts (is_lt (text_cmp t u)) (list_all (λ u. is_lt (text_cmp t u)) us) below in
    by (below_is_other t u parts.0) (bytes_eq u q) refl among (others_behind t us q parts.1)
  where
    by : bytes_eq t u ≡ false → (b : Bool) → bytes_eq u q ≡ b → (b || is_among us q) ≡ true
        → (is_among us q ≡ true → bytes_eq t q ≡ false) → bytes_eq t q ≡ false
    by apart true same e rest =
        subst (λ (x : Text). bytes_eq t x ≡ false) ((bytes_eq-Decides u q).0 same) apart
    by apart false other e rest = rest e

pub ascending_apart : (ts : List Text) → is_ascending ts ≡ true → AreApart ts
ascending_apart [] up = tt
ascending_apart (t ∷ ts) up =
    let parts = and_parts (list_all (λ u. is_lt (text_cmp t u)) ts) (is_ascending ts) up in
    ((λ q among. others_behind t ts q parts.0 among), ascending_apart ts parts.1)
