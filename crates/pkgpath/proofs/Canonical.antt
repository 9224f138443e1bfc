-- The canonical form of a text spells the same path, and determines it.
use Rattle.std.proofs.Common.{◌≡◌, ◌≤◌, Bool, true, false, ◌&&◌, not, [], ◌∷◌, length, refl, sym, ap, ◌∙◌, arith, Option, Some, None, Ok, Err, option_to_list, unwrap_or, slice_get, drop, subst}
use Rattle.std.proofs.lemmas.Bool.{and_from, and_parts, not-true}
use Rattle.std.proofs.lemmas.List.Sums.{sum_by-cons}
use Rattle.std.specs.List.{filter, find, list_all, list_any}
use Rattle.faults.specs.Answers.{unless_fault}
use Rattle.faults.specs.Bytes.{Text, comma, has_byte, is_empty, slash}
use Rattle.faults.specs.Pieces.{pieces_at, set_of, text_cmp}
use Rattle.faults.proofs.Ascending.{Rising}
use Rattle.faults.proofs.Sets.{set_rises, set_stays}
use Rattle.pkgpath.proofs.Behind.{behind, behind-all, behind-count_empty, behind-count_subpackage, behind-flavors, behind-mark, behind-subpackage, behind-weighs}
use Rattle.pkgpath.proofs.FirstFault.{faultless, no_fault}
use Rattle.pkgpath.proofs.PartKinds.{filter-none, list_all-filter, list_all-find, list_all-found, list_all-kept}
use Rattle.pkgpath.proofs.Pieces.{lacks, length-join, length-pieces, pieces-lack, pieces-split, pieces_at-join, weight_of}
use Rattle.pkgpath.proofs.Sets.{list_all-set_of}
use Rattle.pkgpath.specs.PkgPath.{IsPath, Parts, Spells, canonical_text, directory_of, fault_of, is_directory, is_flavor, is_part, is_subpackage, most_bytes, parts_of, path_of, value_of}
use Rattle.pkgpath.specs.declared.PathFault.{PathFault}

filled_from_slash : (text : Text) → has_byte slash (directory_of text) ≡ true → is_empty text ≡ false
filled_from_slash [] has = cc
filled_from_slash (b ∷ bs) has = refl

-- ---- the parts of a path, and their text

-- valid parts of a path
pub record IsWellFormed (v : Parts) : Type 0 where
  pub has_slash : has_byte slash v.directory ≡ true
  pub directory : is_directory v.directory ≡ true
  pub parts : list_all is_part (behind v.is_explicitly_empty v.flavors v.subpackage) ≡ true
  pub no_comma : list_all (lacks comma) (v.directory ∷ behind v.is_explicitly_empty v.flavors v.subpackage) ≡ true
  pub rising : Rising text_cmp v.flavors
  pub flavors : list_all is_flavor v.flavors ≡ true
  pub mark : v.is_explicitly_empty ≡ true → v.flavors ≡ []
  pub one : list_all is_subpackage (option_to_list v.subpackage) ≡ true
  pub short : length (canonical_text v) ≤ most_bytes

module _ (v : Parts) (good : IsWellFormed v) where
  canonical-pieces : pieces_at comma (canonical_text v) ≡ v.directory ∷ behind v.is_explicitly_empty v.flavors v.subpackage
  canonical-pieces = pieces_at-join comma v.directory (behind v.is_explicitly_empty v.flavors v.subpackage) good.no_comma

  canonical-directory : directory_of (canonical_text v) ≡ v.directory
  canonical-directory = ap (λ ps. unwrap_or (slice_get ps 0) []) canonical-pieces

  canonical-parts : parts_of (canonical_text v) ≡ behind v.is_explicitly_empty v.flavors v.subpackage
  canonical-parts = ap (drop 1) canonical-pieces

  canonical-filled : is_empty (canonical_text v) ≡ false
  canonical-filled = filled_from_slash (canonical_text v) (rw canonical-directory good.has_slash)

  pub canonical-faultless : fault_of (canonical_text v) ≡ None
  canonical-faultless = no_fault (canonical_text v) (record {
    filled = canonical-filled;
    short = good.short;
    has_slash = rw canonical-directory good.has_slash;
    directory = rw canonical-directory good.directory;
    parts = rw canonical-parts good.parts;
    one_subpackage = rw canonical-parts (behind-count_subpackage v.flavors v.subpackage good.flavors good.one v.is_explicitly_empty);
    one_empty = rw canonical-parts (behind-count_empty v.flavors v.subpackage good.flavors good.one v.is_explicitly_empty);
  })

  pub canonical-value : value_of (canonical_text v) ≡ v
  canonical-value =
      let flavors : set_of (filter is_flavor (parts_of (canonical_text v))) ≡ v.flavors = rw (canonical-parts, behind-flavors v.flavors v.subpackage good.flavors good.one v.is_explicitly_empty) (set_stays v.flavors good.rising) in
      let mark : (list_any is_empty (parts_of (canonical_text v)) && not (list_any is_flavor (parts_of (canonical_text v)))) ≡ v.is_explicitly_empty = rw canonical-parts (behind-mark v.flavors v.subpackage good.flavors good.one v.is_explicitly_empty good.mark) in
      let subpackage : find is_subpackage (parts_of (canonical_text v)) ≡ v.subpackage = rw canonical-parts (behind-subpackage v.flavors v.subpackage good.flavors good.one v.is_explicitly_empty) in
      λ i. record { directory = canonical-directory i; flavors = flavors i; is_explicitly_empty = mark i; subpackage = subpackage i }

-- ---- what a text spells is valid

module _ (text : Text) (none : fault_of text ≡ None) where
  spelled-mark : (value_of text).is_explicitly_empty ≡ true → (value_of text).flavors ≡ []
  spelled-mark mark =
      let parts = and_parts (list_any is_empty (parts_of text)) (not (list_any is_flavor (parts_of text))) mark in
      rw (filter-none is_flavor (parts_of text) (not-true (list_any is_flavor (parts_of text)) parts.1))

  spelled-all : (p : Text → Bool) → p [] ≡ true → list_all p (parts_of text) ≡ true → list_all p (behind (value_of text).is_explicitly_empty (value_of text).flavors (value_of text).subpackage) ≡ true
  spelled-all p nothing all =
      behind-all p (value_of text).is_explicitly_empty (value_of text).flavors (value_of text).subpackage nothing
      (list_all-set_of p (filter is_flavor (parts_of text)) (list_all-kept p is_flavor (parts_of text) all))
      (list_all-found p is_subpackage (parts_of text) all)

  spelled-no_comma : list_all (lacks comma) (directory_of text ∷ behind (value_of text).is_explicitly_empty (value_of text).flavors (value_of text).subpackage) ≡ true
  spelled-no_comma =
      let pieces : list_all (lacks comma) (directory_of text ∷ parts_of text) ≡ true = ap (list_all (lacks comma)) (sym (pieces-split text)) ∙ pieces-lack comma text in
      let both = and_parts (lacks comma (directory_of text)) (list_all (lacks comma) (parts_of text)) pieces in
      and_from _ _ both.0 (spelled-all (lacks comma) refl both.1)

  spelled-short : length (canonical_text (value_of text)) ≤ most_bytes
  spelled-short =
      let v = value_of text in
      let rest = behind v.is_explicitly_empty v.flavors v.subpackage in
      let written = length-join comma (directory_of text) rest in
      let any : v.is_explicitly_empty ≡ true → list_any is_empty (parts_of text) ≡ true = λ mark. (and_parts _ _ mark).0 in
      omega (arith, written, sum_by-cons weight_of (directory_of text) rest, behind-weighs (parts_of text) v.is_explicitly_empty any, length-pieces text, (faultless text none).short)

  pub spelled-well_formed : IsWellFormed (value_of text)
  spelled-well_formed =
      let good = faultless text none in
      record {
        has_slash = good.has_slash;
        directory = good.directory;
        parts = spelled-all is_part refl good.parts;
        no_comma = spelled-no_comma;
        rising = set_rises (filter is_flavor (parts_of text));
        flavors = list_all-set_of is_flavor (filter is_flavor (parts_of text)) (list_all-filter is_flavor (parts_of text));
        mark = spelled-mark;
        one = list_all-find is_subpackage (parts_of text);
        short = spelled-short;
      }

-- ---- the laws

pub canonical_text_is_read : (text : Text) (v : Parts) → Spells text v → Spells (canonical_text v) v × IsPath (canonical_text v)
canonical_text_is_read text v spells =
    let good : IsWellFormed v = subst IsWellFormed (sym spells.value) (spelled-well_formed text spells.grammar) in (
      record { grammar = canonical-faultless v good; value = sym (canonical-value v good) },
      ap (λ fault. unless_fault fault (canonical_text (value_of (canonical_text v)))) (canonical-faultless v good) ∙ ap (λ u. Ok (canonical_text u)) (canonical-value v good),
    )

pub canonical_text_tells : (s t : Text) (v w : Parts) → Spells s v → Spells t w → canonical_text v ≡ canonical_text w → v ≡ w
canonical_text_tells s t v w spells spells' same =
    (canonical_text_is_read s v spells).0.value ∙ ap value_of same ∙ sym (canonical_text_is_read t w spells').0.value

-- the result for a text is a path
pub IsPath-from_path_of : (text t : Text) → path_of text ≡ Ok t → IsPath t
IsPath-from_path_of text t right = by (fault_of text) refl right
  where
    by : (fault : Option PathFault) → fault_of text ≡ fault → unless_fault fault (canonical_text (value_of text)) ≡ Ok t → IsPath t
    by None none is =
        let path = (canonical_text_is_read text (value_of text) (record { grammar = none; value = refl })).1 in
        let same : canonical_text (value_of text) ≡ t = cc in
        subst IsPath same path
    by (Some e) fault is = absurd (err_is_not_ok e t is)
      where
        err_is_not_ok : (e : PathFault) (t : Text) → Err e ≡ Ok t → ⊥
        err_is_not_ok e t is = cc
