-- A path without its subpackage.
use Rattle.std.proofs.Common.{◌≡◌, ◌≤◌, ◌<◌, ◌+◌, ◌==◌, ℕ, zero, suc, Bool, true, false, not, ◌||◌, ◌++◌, [], ◌∷◌, List, codes, drop, get_or, length, refl, sym, take, ap, ◌∙◌, append_assoc, arith, eq-eqb, Option, Some, None, Ok, Err, option_to_list, if◌then◌else◌}
use Rattle.std.proofs.lemmas.Bool.{and_from, and_parts}
use Rattle.std.proofs.lemmas.List.{append-nil, drop_more, get_or-drop, length-drop, take-append-drop}
use Rattle.std.proofs.lemmas.List.Folds.{list_all-append}
use Rattle.std.proofs.lemmas.List.Sums.{sum_by-append, sum_by-cons}
use Rattle.std.specs.List.{join_with_byte, list_all, sum_by}
use Rattle.faults.specs.Answers.{unless_fault}
use Rattle.faults.specs.Bytes.{Text, begins_with, comma, has_byte}
use Rattle.pkgpath.proofs.Behind.{behind, behind-all}
use Rattle.pkgpath.proofs.Canonical.{IsWellFormed, canonical-faultless, canonical-value, canonical_text_is_read, spelled-well_formed}
use Rattle.pkgpath.proofs.Pieces.{lacks, length-join, weight_of}
use Rattle.pkgpath.specs.PkgPath.{IsPath, Parts, canonical_text, fault_of, is_flavor, is_part, is_subpackage, value_of, without_subpackage}
use Rattle.pkgpath.specs.declared.PathFault.{PathFault}

-- the parts without the subpackage
abbrev bare : Parts → Parts
bare v = record v { subpackage = None }

-- a property of all parts after a directory holds for those that are left
bare-all : (p : Text → Bool) (mark : Bool) (flavors : List Text) (subpackage : Option Text) → list_all p (behind mark flavors subpackage) ≡ true → list_all p (behind mark flavors None) ≡ true
bare-all p true flavors subpackage all =
    let parts = and_parts (p []) _ all in
    let rest = and_parts _ _ (sym (list_all-append p flavors (option_to_list subpackage)) ∙ parts.1) in
    and_from _ _ parts.0 (ap (list_all p) (append-nil flavors) ∙ rest.0)
bare-all p false flavors subpackage all =
    let rest = and_parts _ _ (sym (list_all-append p flavors (option_to_list subpackage)) ∙ all) in
    ap (list_all p) (append-nil flavors) ∙ rest.0

behind-sum : (mark : Bool) (flavors : List Text) (subpackage : Option Text) → sum_by weight_of (behind mark flavors subpackage)
    ≡ sum_by weight_of (if mark then [] ∷ [] else []) + sum_by weight_of flavors + sum_by weight_of (option_to_list subpackage)
behind-sum mark flavors subpackage =
    let front : List Text = if mark then [] ∷ [] else [] in
    sum_by-append weight_of (front ++ flavors) (option_to_list subpackage)
    ∙ ap (λ n. n + sum_by weight_of (option_to_list subpackage)) (sum_by-append weight_of front flavors)

bare-weighs : (mark : Bool) (flavors : List Text) (subpackage : Option Text) → sum_by weight_of (behind mark flavors None) ≤ sum_by weight_of (behind mark flavors subpackage)
bare-weighs mark flavors subpackage = omega (arith, behind-sum mark flavors None, behind-sum mark flavors subpackage)

bare-well_formed : (v : Parts) → IsWellFormed v → IsWellFormed (bare v)
bare-well_formed v good =
    let both = and_parts (lacks comma v.directory) _ good.no_comma in
    record {
      has_slash = good.has_slash;
      directory = good.directory;
      parts = bare-all is_part v.is_explicitly_empty v.flavors v.subpackage good.parts;
      no_comma = and_from _ _ both.0 (bare-all (lacks comma) v.is_explicitly_empty v.flavors v.subpackage both.1);
      rising = good.rising;
      flavors = good.flavors;
      mark = good.mark;
      one = refl;
      short =
          let rest = behind v.is_explicitly_empty v.flavors v.subpackage in
          let left = behind v.is_explicitly_empty v.flavors None in
          omega (arith, good.short, length-join comma v.directory rest, length-join comma v.directory left, sum_by-cons weight_of v.directory rest, sum_by-cons weight_of v.directory left, bare-weighs v.is_explicitly_empty v.flavors v.subpackage);
    }

path-faultless : (path : Text) → IsPath path → fault_of path ≡ None
path-faultless path is = by (fault_of path) refl is
  where
    by : (fault : Option PathFault) → fault_of path ≡ fault → unless_fault fault (canonical_text (value_of path)) ≡ Ok path → fault_of path ≡ None
    by None none is = none
    by (Some e) some is = absurd (let e : Err e ≡ Ok path = is in cc)

path-bare : (path : Text) → IsPath path → IsWellFormed (bare (value_of path))
path-bare path is = bare-well_formed (value_of path) (spelled-well_formed path (path-faultless path is))

pub without-is_path : (path : Text) → IsPath path → IsPath (without_subpackage path)
without-is_path path is =
    let v = bare (value_of path) in
    let good = path-bare path is in
    (canonical_text_is_read (canonical_text v) v (record { grammar = canonical-faultless v good; value = sym (canonical-value v good) })).1

pub without-once : (path : Text) → IsPath path → without_subpackage (without_subpackage path) ≡ without_subpackage path
without-once path is =
    let v = bare (value_of path) in
    ap (λ u. canonical_text (record u { subpackage = None })) (canonical-value v (path-bare path is))

-- ---- the last part

has-behind : (c : ℕ) (a s : Text) → has_byte c (a ++ c ∷ s) ≡ true
has-behind c [] s = rw (eq-eqb c c refl) refl
has-behind c (x ∷ a) s = by (x == c) (has-behind c a s)
  where
    by : (b : Bool) → has_byte c (a ++ c ∷ s) ≡ true → (b || has_byte c (a ++ c ∷ s)) ≡ true
    by true rest = refl
    by false rest = rest

lacks-not : (c : ℕ) (a s t : Text) → lacks c t ≡ true → a ++ c ∷ s ≡ t → ⊥
lacks-not c a s t lacking same =
    let e : not (has_byte c t) ≡ false = ap not (ap (has_byte c) (sym same) ∙ has-behind c a s) in
    let no_byte : not (has_byte c t) ≡ true = lacking in
    (let f : true ≡ false = sym no_byte ∙ e in cc)

-- a text is split at its last comma in one way
cut-once : (a b s t : Text) → lacks comma s ≡ true → lacks comma t ≡ true → a ++ comma ∷ s ≡ b ++ comma ∷ t → (a ≡ b) × (s ≡ t)
cut-once [] [] s t lacking lacking' same = (refl, cc)
cut-once [] (y ∷ b) s t lacking lacking' same = absurd (let rest : b ++ comma ∷ t ≡ s = cc in lacks-not comma b t s lacking rest)
cut-once (x ∷ a) [] s t lacking lacking' same = absurd (let rest : a ++ comma ∷ s ≡ t = cc in lacks-not comma a s t lacking' rest)
cut-once (x ∷ a) (y ∷ b) s t lacking lacking' same =
    let heads : x ≡ y = cc in
    let tails : a ++ comma ∷ s ≡ b ++ comma ∷ t = cc in
    let rest = cut-once a b s t lacking lacking' tails in (
      λ i. heads i ∷ rest.0 i,
      rest.1,
    )

-- one more piece after a comma
join-last : (p : Text) (ps : List Text) (s : Text) → join_with_byte comma (p ∷ ps ++ s ∷ []) ≡ join_with_byte comma (p ∷ ps) ++ comma ∷ s
join-last p [] s = refl
join-last p (q ∷ qs) s = ap (λ t. p ++ comma ∷ t) (join-last q qs s) ∙ sym (append_assoc p (comma ∷ join_with_byte comma (q ∷ qs)) (comma ∷ s))

-- the text after the last comma of pieces without commas, and a property of it that holds for all
-- of them
record LastOf (p : Text) (ps : List Text) : Type 0 where
  front : Text
  last : Text
  is : join_with_byte comma (p ∷ ps) ≡ front ++ comma ∷ last
  passes : (f : Text → Bool) → list_all f ps ≡ true → f last ≡ true

last-of : (p q : Text) (qs : List Text) → LastOf p (q ∷ qs)
last-of p q [] = record { front = p; last = q; is = refl; passes = λ f all. (and_parts (f q) true all).0 }
last-of p q (r ∷ rs) =
    let rest = last-of q r rs in
    record {
      front = p ++ comma ∷ rest.front;
      last = rest.last;
      is = ap (λ t. p ++ comma ∷ t) rest.is ∙ sym (append_assoc p (comma ∷ rest.front) (comma ∷ rest.last));
      passes = λ f all. rest.passes f (and_parts (f q) (list_all f (r ∷ rs)) all).1;
    }

no-byte : (c : ℕ) (xs : Text) → ((k : ℕ) → k < length xs → (get_or xs k 0 == c) ≡ false) → lacks c xs ≡ true
no-byte c [] none = refl
no-byte c (x ∷ xs) none =
    let here : (x == c) ≡ false = none zero (omega arith) in
    rw here (no-byte c xs (λ k within. none (suc k) (omega (arith, within))))

-- ---- where a path is split

abbrev is_dashed : Text → Bool
is_dashed part = begins_with (codes "-") part

abbrev is_undashed : Text → Bool
is_undashed part = not (is_dashed part)

true-is_not-false : true ≡ false → ⊥
true-is_not-false same = cc

-- the text after the last comma of pieces that don't begin with a dash doesn't begin with one
undashed-last : (d : Text) (ps : List Text) (a s : Text) → lacks comma d ≡ true → lacks comma s ≡ true → list_all (lacks comma) ps ≡ true → list_all is_undashed ps ≡ true
    → join_with_byte comma (d ∷ ps) ≡ a ++ comma ∷ s → is_undashed s ≡ true
undashed-last d [] a s none lacking all undashed same = absurd (lacks-not comma a s d none (sym same))
undashed-last d (q ∷ qs) a s none lacking all undashed same =
    let last = last-of d q qs in
    let cut = cut-once a last.front s last.last lacking (last.passes (lacks comma) all) (sym same ∙ last.is) in
    ap is_undashed cut.1 ∙ last.passes is_undashed undashed

flavors-undashed : (flavors : List Text) → list_all is_flavor flavors ≡ true → list_all is_undashed flavors ≡ true
flavors-undashed [] all = refl
flavors-undashed (f ∷ fs) all =
    let parts = and_parts (is_flavor f) (list_all is_flavor fs) all in
    and_from (is_undashed f) (list_all is_undashed fs) (and_parts _ (is_undashed f) parts.0).1 (flavors-undashed fs parts.1)

path-canonical : (path : Text) → IsPath path → path ≡ canonical_text (value_of path)
path-canonical path is = by (fault_of path) is
  where
    by : (fault : Option PathFault) → unless_fault fault (canonical_text (value_of path)) ≡ Ok path → path ≡ canonical_text (value_of path)
    by None is = cc
    by (Some e) is = absurd (let e : Err e ≡ Ok path = is in cc)

-- the text before the first of two pieces, the byte between them, and the rest
parted : (text : Text) (j : ℕ) → j < length text → get_or text j 0 ≡ comma → text ≡ take j text ++ comma ∷ drop (j + 1) text
parted text j within here =
    sym (ap (λ b. take j text ++ b ∷ drop (j + 1) text) (sym here)
    ∙ ap (λ rest. take j text ++ rest) (sym (drop_more text j 0 within)) ∙ take-append-drop j text)

module _ (path : Text) (is : IsPath path) where
  abbrev value : Parts
  value = value_of path

  abbrev joined : Option Text → Text
  joined subpackage = join_with_byte comma (value.directory ∷ behind value.is_explicitly_empty value.flavors subpackage)

  abbrev before_last : List Text
  before_last = (if value.is_explicitly_empty then [] ∷ [] else []) ++ value.flavors

  good : IsWellFormed value
  good = spelled-well_formed path (path-faultless path is)

  written : path ≡ joined value.subpackage
  written = path-canonical path is

  no_commas : list_all (lacks comma) (behind value.is_explicitly_empty value.flavors value.subpackage) ≡ true
  no_commas = (and_parts (lacks comma value.directory) (list_all (lacks comma) (behind value.is_explicitly_empty value.flavors value.subpackage)) good.no_comma).1

  with_subpackage : (s : Text) → value.subpackage ≡ Some s → path ≡ without_subpackage path ++ comma ∷ s
  with_subpackage s some =
      written ∙ ap joined some ∙ join-last value.directory before_last s
      ∙ ap (λ ps. join_with_byte comma (value.directory ∷ ps) ++ comma ∷ s) (sym (append-nil before_last))

  subpackage-dashed : (s : Text) → value.subpackage ≡ Some s → is_dashed s ≡ true
  subpackage-dashed s some =
      let one : list_all is_subpackage (s ∷ []) ≡ true = ap (λ o. list_all is_subpackage (option_to_list o)) (sym some) ∙ good.one in
      (and_parts (is_dashed s) _ (and_parts (is_subpackage s) true one).0).0

  subpackage-lacks : (s : Text) → value.subpackage ≡ Some s → lacks comma s ≡ true
  subpackage-lacks s some =
      let last = and_parts (list_all (lacks comma) before_last) (list_all (lacks comma) (option_to_list value.subpackage)) (sym (list_all-append (lacks comma) before_last (option_to_list value.subpackage)) ∙ no_commas) in
      let one : list_all (lacks comma) (s ∷ []) ≡ true = ap (λ o. list_all (lacks comma) (option_to_list o)) (sym some) ∙ last.1 in
      (and_parts (lacks comma s) true one).0

  no_subpackage : value.subpackage ≡ None → path ≡ without_subpackage path
  no_subpackage none = written ∙ ap joined none

  -- a path without a comma has no subpackage
  pub kept-no_comma : ((k : ℕ) → k < length path → (get_or path k 0 == comma) ≡ false) → path ≡ without_subpackage path
  kept-no_comma none = by value.subpackage refl
    where
      by : (o : Option Text) → value.subpackage ≡ o → path ≡ without_subpackage path
      by None is_none = no_subpackage is_none
      by (Some s) some = absurd (lacks-not comma (without_subpackage path) s path (no-byte comma path none) (sym (with_subpackage s some)))

  module _ (j : ℕ) (within : j < length path) (here : get_or path j 0 ≡ comma) (last : (k : ℕ) → j < k → k < length path → (get_or path k 0 == comma) ≡ false) where
    tail-lacks : lacks comma (drop (j + 1) path) ≡ true
    tail-lacks =
        no-byte comma (drop (j + 1) path) (λ k below.
        ap (λ b. b == comma) (get_or-drop (j + 1) path k 0) ∙ last (j + 1 + k) (omega arith) (omega (arith, length-drop (j + 1) path)))

    cut-subpackage : (s : Text) → value.subpackage ≡ Some s → (take j path ≡ without_subpackage path) × (drop (j + 1) path ≡ s)
    cut-subpackage s some =
        cut-once (take j path) (without_subpackage path) (drop (j + 1) path) s tail-lacks (subpackage-lacks s some)
        (sym (parted path j within here) ∙ with_subpackage s some)

    undashed : value.subpackage ≡ None → is_undashed (drop (j + 1) path) ≡ true
    undashed none =
        undashed-last value.directory (behind value.is_explicitly_empty value.flavors None) (take j path) (drop (j + 1) path)
        (and_parts (lacks comma value.directory) (list_all (lacks comma) (behind value.is_explicitly_empty value.flavors value.subpackage)) good.no_comma).0
        tail-lacks
        (ap (λ o. list_all (lacks comma) (behind value.is_explicitly_empty value.flavors o)) (sym none) ∙ no_commas)
        (behind-all is_undashed value.is_explicitly_empty value.flavors None refl (flavors-undashed value.flavors good.flavors) refl)
        (sym (written ∙ ap joined none) ∙ parted path j within here)

    -- a last part with a dash is the subpackage
    pub cut-dashed : is_dashed (drop (j + 1) path) ≡ true → take j path ≡ without_subpackage path
    cut-dashed dashed = by value.subpackage refl
      where
        by : (o : Option Text) → value.subpackage ≡ o → take j path ≡ without_subpackage path
        by None none = absurd (true-is_not-false (sym (undashed none) ∙ ap not dashed))
        by (Some s) some = (cut-subpackage s some).0

    -- a last part without a dash is not a subpackage
    pub kept-undashed : is_dashed (drop (j + 1) path) ≡ false → path ≡ without_subpackage path
    kept-undashed not_dashed = by value.subpackage refl
      where
        by : (o : Option Text) → value.subpackage ≡ o → path ≡ without_subpackage path
        by None none = no_subpackage none
        by (Some s) some = absurd (true-is_not-false (sym (subpackage-dashed s some) ∙ ap is_dashed (sym (cut-subpackage s some).1) ∙ not_dashed))
