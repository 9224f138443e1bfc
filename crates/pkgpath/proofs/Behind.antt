-- What is written after the directory, and what is parsed from it.
use Rattle.std.proofs.Common.{◌≡◌, ℕ, ◌≤◌, Bool, true, false, ◌&&◌, ◌||◌, ◌++◌, not, cond, List, [], ◌∷◌, length, refl, ◌∙◌, arith, Option, Some, None, option_to_list, if◌then◌else◌}
use Rattle.std.proofs.lemmas.Bool.{and_from, and_parts}
use Rattle.std.proofs.lemmas.List.{append-nil}
use Rattle.std.proofs.lemmas.List.Elements.{filter-append}
use Rattle.std.proofs.lemmas.List.Folds.{find-append, list_all-append, list_any-append}
use Rattle.std.proofs.lemmas.List.Sums.{count_by-le-length, sum_by-append, sum_by-cons}
use Rattle.std.specs.List.{count_by, filter, find, list_all, list_any, sum_by}
use Rattle.faults.specs.Bytes.{Text, is_empty}
use Rattle.faults.specs.Pieces.{set_of}
use Rattle.pkgpath.proofs.PartKinds.{count_by-none, filter-all, filter-none, find-none, flavor-is_empty, flavor-is_subpackage, list_any-apart, subpackage-is_empty, subpackage-is_flavor, sum_by-find, sum_by-kinds}
use Rattle.pkgpath.proofs.Pieces.{weight_of}
use Rattle.pkgpath.proofs.Sets.{sum_by-set_of}
use Rattle.pkgpath.specs.PkgPath.{is_flavor, is_subpackage}

or_false : (b : Bool) → (b || false) ≡ b
or_false true = refl
or_false false = refl

-- ---- what is written after the directory

-- the mark, the flavors and the subpackage
abbrev pub behind : Bool → List Text → Option Text → List Text
behind mark flavors subpackage = (if mark then [] ∷ [] else []) ++ flavors ++ option_to_list subpackage

pub behind-all : (p : Text → Bool) (mark : Bool) (flavors : List Text) (subpackage : Option Text) → p [] ≡ true → list_all p flavors ≡ true → list_all p (option_to_list subpackage) ≡ true → list_all p (behind mark flavors subpackage) ≡ true
behind-all p true flavors subpackage none all one = and_from _ _ none (list_all-append p flavors (option_to_list subpackage) ∙ and_from _ _ all one)
behind-all p false flavors subpackage none all one = list_all-append p flavors (option_to_list subpackage) ∙ and_from _ _ all one

-- ---- what is parsed from that

find-last : (subpackage : Option Text) → list_all is_subpackage (option_to_list subpackage) ≡ true → find is_subpackage (option_to_list subpackage) ≡ subpackage
find-last None one = refl
find-last (Some s) one = rw (and_parts (is_subpackage s) true one).0

last-short : (subpackage : Option Text) → length (option_to_list subpackage) ≤ 1
last-short None = omega arith
last-short (Some s) = omega arith

module _ (flavors : List Text) (subpackage : Option Text) (all : list_all is_flavor flavors ≡ true) (one : list_all is_subpackage (option_to_list subpackage) ≡ true) where
  abbrev tail : List Text
  tail = flavors ++ option_to_list subpackage

  no_flavor_last : list_any is_flavor (option_to_list subpackage) ≡ false
  no_flavor_last = list_any-apart is_subpackage is_flavor subpackage-is_flavor (option_to_list subpackage) one

  no_subpackage : list_any is_subpackage flavors ≡ false
  no_subpackage = list_any-apart is_flavor is_subpackage flavor-is_subpackage flavors all

  tail-empty : list_any is_empty tail ≡ false
  tail-empty =
      list_any-append is_empty flavors (option_to_list subpackage)
      ∙ rw (list_any-apart is_flavor is_empty flavor-is_empty flavors all) (list_any-apart is_subpackage is_empty subpackage-is_empty (option_to_list subpackage) one)

  tail-flavor : list_any is_flavor tail ≡ list_any is_flavor flavors
  tail-flavor = list_any-append is_flavor flavors (option_to_list subpackage) ∙ rw no_flavor_last (or_false (list_any is_flavor flavors))

  tail-flavors : filter is_flavor tail ≡ flavors
  tail-flavors =
      filter-append is_flavor flavors (option_to_list subpackage)
      ∙ rw (filter-all is_flavor flavors all, filter-none is_flavor (option_to_list subpackage) no_flavor_last) (append-nil flavors)

  tail-subpackage : find is_subpackage tail ≡ subpackage
  tail-subpackage =
      find-append is_subpackage flavors (option_to_list subpackage)
      ∙ rw (find-none is_subpackage flavors no_subpackage) (find-last subpackage one)

  tail-count_empty : count_by is_empty tail ≡ 0
  tail-count_empty = count_by-none is_empty tail tail-empty

  tail-count_subpackage : count_by is_subpackage tail ≤ 1
  tail-count_subpackage =
      omega (arith, sum_by-append (λ x. cond (is_subpackage x) 1 0) flavors (option_to_list subpackage), count_by-none is_subpackage flavors no_subpackage, count_by-le-length is_subpackage (option_to_list subpackage), last-short subpackage)

  pub behind-flavors : (mark : Bool) → filter is_flavor (behind mark flavors subpackage) ≡ flavors
  behind-flavors true = tail-flavors
  behind-flavors false = tail-flavors

  pub behind-subpackage : (mark : Bool) → find is_subpackage (behind mark flavors subpackage) ≡ subpackage
  behind-subpackage true = tail-subpackage
  behind-subpackage false = tail-subpackage

  pub behind-count_empty : (mark : Bool) → count_by is_empty (behind mark flavors subpackage) ≤ 1
  behind-count_empty true = omega (arith, sum_by-cons (λ x. cond (is_empty {X = ℕ} x) 1 0) [] tail, tail-count_empty)
  behind-count_empty false = omega (arith, tail-count_empty)

  pub behind-count_subpackage : (mark : Bool) → count_by is_subpackage (behind mark flavors subpackage) ≤ 1
  behind-count_subpackage true = omega (arith, sum_by-cons (λ x. cond (is_subpackage x) 1 0) [] tail, tail-count_subpackage)
  behind-count_subpackage false = tail-count_subpackage

  pub behind-mark : (mark : Bool) → (mark ≡ true → flavors ≡ []) → (list_any is_empty (behind mark flavors subpackage) && not (list_any is_flavor (behind mark flavors subpackage))) ≡ mark
  behind-mark true none = rw (tail-flavor, none refl)
  behind-mark false none = rw tail-empty

-- ---- what is written is not longer than what was parsed

empties-weigh : (ps : List Text) → list_any is_empty ps ≡ true → 1 ≤ sum_by weight_of (filter is_empty ps)
empties-weigh [] any = cc
empties-weigh ([] ∷ ps) any = omega (arith, sum_by-cons weight_of [] (filter is_empty ps))
empties-weigh ((b ∷ bs) ∷ ps) any = empties-weigh ps any

mark-weighs : (ps : List Text) (mark : Bool) → (mark ≡ true → list_any is_empty ps ≡ true) → sum_by weight_of (if mark then [] ∷ [] else []) ≤ sum_by weight_of (filter is_empty ps)
mark-weighs ps true any = empties-weigh ps (any refl)
mark-weighs ps false any = omega arith

-- what is written is not longer than what was parsed
pub behind-weighs : (ps : List Text) (mark : Bool) → (mark ≡ true → list_any is_empty ps ≡ true) → sum_by weight_of (behind mark (set_of (filter is_flavor ps)) (find is_subpackage ps)) ≤ sum_by weight_of ps
behind-weighs ps mark any =
    let front : List Text = if mark then [] ∷ [] else [] in
    let flavors = set_of (filter is_flavor ps) in
    let last = option_to_list (find is_subpackage ps) in
    omega (arith, sum_by-append weight_of (front ++ flavors) last, sum_by-append weight_of front flavors, mark-weighs ps mark any, sum_by-set_of weight_of (filter is_flavor ps), sum_by-find is_subpackage weight_of ps, sum_by-kinds weight_of ps)
