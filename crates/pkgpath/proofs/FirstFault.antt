-- The first fault of a text.
use Rattle.std.proofs.Common.{◌≡◌, ◌<◌, ◌≤◌, Bool, true, false, ◌&&◌, not, List, [], ◌∷◌, length, refl, ap, ◌∙◌, arith, Some, None, Ok, Err, ltb, drop, slice_get, unwrap_or}
use Rattle.std.proofs.lemmas.Bool.{and_left, and_parts, and_right, le-ltb, lt-ltb, ltb-false, not-false}
use Rattle.std.specs.List.{count_by, list_all}
use Rattle.faults.specs.Answers.{first_that_applies, unless_fault}
use Rattle.faults.specs.Bytes.{Text, comma, has_byte, is_empty, slash}
use Rattle.faults.specs.Pieces.{pieces_at}
use Rattle.pkgpath.specs.PkgPath.{canonical_text, directory_of, fault_of, is_directory, is_part, is_subpackage, most_bytes, parts_of, path_of, value_from, value_of}
use Rattle.pkgpath.specs.declared.PathFault.{PathFault}
use Rattle.pkgpath.specs.declared.PathFault.TheVariants.{Empty, TooLong, NoSlash, BadByte, TwoSubpackages, TwoEmptyParts}

-- ---- a text without a fault

some_is_not_none : {X : Type 0} (x : X) → Some x ≡ None → ⊥
some_is_not_none x e = cc

none_applies : (a b c d e f : Bool) → first_that_applies ((a, Empty) ∷ (b, TooLong) ∷ (c, NoSlash) ∷ (d, BadByte) ∷ (e, TwoSubpackages) ∷ (f, TwoEmptyParts) ∷ []) ≡ None
    → (a ≡ false) × (b ≡ false) × (c ≡ false) × (d ≡ false) × (e ≡ false) × (f ≡ false)
none_applies true b c d e f none = absurd (some_is_not_none Empty none)
none_applies false true c d e f none = absurd (some_is_not_none TooLong none)
none_applies false false true d e f none = absurd (some_is_not_none NoSlash none)
none_applies false false false true e f none = absurd (some_is_not_none BadByte none)
none_applies false false false false true f none = absurd (some_is_not_none TwoSubpackages none)
none_applies false false false false false true none = absurd (some_is_not_none TwoEmptyParts none)
none_applies false false false false false false none = (refl, refl, refl, refl, refl, refl)

-- what holds of a text without a fault
pub record IsFaultless (text : Text) : Type 0 where
  pub filled : is_empty text ≡ false
  pub short : length text ≤ most_bytes
  pub has_slash : has_byte slash (directory_of text) ≡ true
  pub directory : is_directory (directory_of text) ≡ true
  pub parts : list_all is_part (parts_of text) ≡ true
  pub one_subpackage : count_by is_subpackage (parts_of text) ≤ 1
  pub one_empty : count_by is_empty (parts_of text) ≤ 1

pub faultless : (text : Text) → fault_of text ≡ None → IsFaultless text
faultless text none =
    let bytes = is_directory (directory_of text) && list_all is_part (parts_of text) in
    let tests = none_applies (is_empty text) (ltb most_bytes (length text)) (not (has_byte slash (directory_of text))) (not bytes) (ltb 1 (count_by is_subpackage (parts_of text))) (ltb 1 (count_by is_empty (parts_of text))) none in
    let good = and_parts (is_directory (directory_of text)) (list_all is_part (parts_of text)) (not-false bytes tests.3) in
    record {
      filled = tests.0;
      short = ltb-false most_bytes (length text) tests.1;
      has_slash = not-false (has_byte slash (directory_of text)) tests.2;
      directory = good.0;
      parts = good.1;
      one_subpackage = ltb-false 1 (count_by is_subpackage (parts_of text)) tests.4;
      one_empty = ltb-false 1 (count_by is_empty (parts_of text)) tests.5;
    }

pub no_fault : (text : Text) → IsFaultless text → fault_of text ≡ None
no_fault text good =
    rw (good.filled, le-ltb most_bytes (length text) good.short, good.has_slash, good.directory, good.parts, le-ltb 1 (count_by is_subpackage (parts_of text)) good.one_subpackage, le-ltb 1 (count_by is_empty (parts_of text)) good.one_empty)

-- ---- results of path_of

faulty : (text : Text) (e : PathFault) → fault_of text ≡ Some e → path_of text ≡ Err e
faulty text e is = ap (λ fault. unless_fault fault (canonical_text (value_of text))) is

filled_from_length : (text : Text) → 0 < length text → is_empty text ≡ false
filled_from_length [] filled = absurd (omega arith)
filled_from_length (b ∷ bs) filled = refl

empty_from_length : (text : Text) → length text ≡ 0 → is_empty text ≡ true
empty_from_length [] none = refl
empty_from_length (b ∷ bs) none = absurd (omega arith)

pub path_of-empty : (text : Text) → length text ≡ 0 → path_of text ≡ Err Empty
path_of-empty text none = faulty text Empty (rw (empty_from_length text none))

pub path_of-too_long : (text : Text) → most_bytes < length text → path_of text ≡ Err TooLong
path_of-too_long text long = faulty text TooLong (rw (filled_from_length text (omega arith), lt-ltb most_bytes (length text) long))

module _ (text directory : Text) (parts : List Text) (filled : 0 < length text) (short : length text ≤ most_bytes) (pieces : pieces_at comma text ≡ directory ∷ parts) where
  directory-is : directory_of text ≡ directory
  directory-is = ap (λ ps. unwrap_or (slice_get ps 0) []) pieces

  parts-is : parts_of text ≡ parts
  parts-is = ap (drop 1) pieces

  abbrev later : Bool → List (Bool × PathFault)
  later bad = (bad, BadByte) ∷ (ltb 1 (count_by is_subpackage parts), TwoSubpackages) ∷ (ltb 1 (count_by is_empty parts), TwoEmptyParts) ∷ []

  fault_of-later : has_byte slash directory ≡ true → fault_of text ≡ first_that_applies (later (not (is_directory directory && list_all is_part parts)))
  fault_of-later has_slash = rw (filled_from_length text filled, le-ltb most_bytes (length text) short, directory-is, parts-is, has_slash)

  pub path_of-no_slash : has_byte slash directory ≡ false → path_of text ≡ Err NoSlash
  path_of-no_slash none = faulty text NoSlash (rw (filled_from_length text filled, le-ltb most_bytes (length text) short, directory-is, none))

  pub path_of-bad_byte : has_byte slash directory ≡ true → (is_directory directory && list_all is_part parts) ≡ false → path_of text ≡ Err BadByte
  path_of-bad_byte has_slash bad = faulty text BadByte (fault_of-later has_slash ∙ rw bad)

  -- the results of the directory's own tests
  pub path_of-directory : (e : PathFault) → first_that_applies ((not (has_byte slash directory), NoSlash) ∷ (not (is_directory directory), BadByte) ∷ []) ≡ Some e → path_of text ≡ Err e
  path_of-directory e first = by (has_byte slash directory) refl (is_directory directory) refl first
    where
      by : (s : Bool) → has_byte slash directory ≡ s → (d : Bool) → is_directory directory ≡ d → first_that_applies ((not s, NoSlash) ∷ (not d, BadByte) ∷ []) ≡ Some e → path_of text ≡ Err e
      by false none d is first = path_of-no_slash none ∙ cc
      by true has false bad first = path_of-bad_byte has (and_left _ _ bad) ∙ cc
      by true has true good first = cc

  -- a directory without a fault
  pub no_directory_fault : first_that_applies ((not (has_byte slash directory), NoSlash) ∷ (not (is_directory directory), BadByte) ∷ []) ≡ None → (has_byte slash directory ≡ true) × (is_directory directory ≡ true)
  no_directory_fault none = by (has_byte slash directory) (is_directory directory) none
    where
      by : (s d : Bool) → first_that_applies ((not s, NoSlash) ∷ (not d, BadByte) ∷ []) ≡ None → (s ≡ true) × (d ≡ true)
      by false d first = absurd (some_is_not_none NoSlash first)
      by true false first = absurd (some_is_not_none BadByte first)
      by true true first = (refl, refl)

  module _ (has_slash : has_byte slash directory ≡ true) (is_good : is_directory directory ≡ true) where
    pub path_of-bad_part : list_all is_part parts ≡ false → path_of text ≡ Err BadByte
    path_of-bad_part bad = path_of-bad_byte has_slash (and_right _ _ bad)

    module _ (all_parts : list_all is_part parts ≡ true) where
      pub path_of-two_subpackages : 1 < count_by is_subpackage parts → path_of text ≡ Err TwoSubpackages
      path_of-two_subpackages two = faulty text TwoSubpackages (fault_of-later has_slash ∙ rw (is_good, all_parts, lt-ltb 1 (count_by is_subpackage parts) two))

      pub path_of-two_empty_parts : count_by is_subpackage parts ≤ 1 → 1 < count_by is_empty parts → path_of text ≡ Err TwoEmptyParts
      path_of-two_empty_parts one two = faulty text TwoEmptyParts (fault_of-later has_slash ∙ rw (is_good, all_parts, le-ltb 1 (count_by is_subpackage parts) one, lt-ltb 1 (count_by is_empty parts) two))

      pub path_of-right : count_by is_subpackage parts ≤ 1 → count_by is_empty parts ≤ 1 → path_of text ≡ Ok (canonical_text (value_from directory parts))
      path_of-right one one' =
          let none : fault_of text ≡ None = fault_of-later has_slash ∙ rw (is_good, all_parts, le-ltb 1 (count_by is_subpackage parts) one, le-ltb 1 (count_by is_empty parts) one') in
          ap (λ fault. unless_fault fault (canonical_text (value_of text))) none ∙ rw (directory-is, parts-is)
