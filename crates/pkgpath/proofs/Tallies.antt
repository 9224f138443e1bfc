-- One more part in a tally.
use Rattle.std.proofs.Common.{◌≡◌, ◌+◌, Bool, true, false, List, [], ◌∷◌, ◌++◌, refl, sym, ap, ◌∙◌, arith, Option, Some, None, Bor, cond}
use Rattle.std.proofs.lemmas.Bool.{and_from}
use Rattle.std.proofs.lemmas.List.Folds.{find-append, list_all-append}
use Rattle.std.proofs.lemmas.List.Sums.{sum_by_push}
use Rattle.std.specs.List.{count_by, find, list_all}
use Rattle.std.specs.Option.{option_copied, option_or}
use Rattle.faults.specs.Bytes.{Text, is_empty}
use Rattle.pkgpath.specs.Kind.{IsOfKind, IsTally}
use Rattle.pkgpath.specs.PkgPath.{is_flavor, is_subpackage}
use Rattle.pkgpath.specs.declared.parts.Kind.TheVariants.{Empty, Subpackage, Flavor}
use Rattle.pkgpath.specs.declared.parts.Tally.{Tally}

module _ {X : Type 0} (q : X → Bool) (xs : List X) (x : X) where
  pub list_all-push : list_all q xs ≡ true → q x ≡ true → list_all q (xs ++ x ∷ []) ≡ true
  list_all-push all one = list_all-append q xs (x ∷ []) ∙ and_from _ _ all (and_from _ _ one refl)

  count_by-push_yes : q x ≡ true → count_by q (xs ++ x ∷ []) ≡ count_by q xs + 1
  count_by-push_yes passes = sum_by_push (λ y. cond (q y) 1 0) xs x ∙ rw passes

  count_by-push_no : q x ≡ false → count_by q (xs ++ x ∷ []) ≡ count_by q xs
  count_by-push_no fails = sum_by_push (λ y. cond (q y) 1 0) xs x ∙ rw fails (omega arith)

  find-push_yes : q x ≡ true → find q (xs ++ x ∷ []) ≡ option_or (find q xs) (Some x)
  find-push_yes passes = find-append q xs (x ∷ []) ∙ rw passes

  find-push_no : q x ≡ false → find q (xs ++ x ∷ []) ≡ find q xs
  find-push_no fails = find-append q xs (x ∷ []) ∙ rw fails (or_none (find q xs))
    where
      or_none : (o : Option X) → option_or o None ≡ o
      or_none None = refl
      or_none (Some y) = refl

option_copied-or : (o : Option (Bor Text)) (b : Bor Text) → option_copied (option_or o (Some b)) ≡ option_or (option_copied o) (Some b.now)
option_copied-or None b = refl
option_copied-or (Some a) b = refl

module _ (t : Tally) (parts : List Text) (b : Bor Text) (tally : IsTally t parts) where
  pub IsTally-empty : IsOfKind Empty b.now → IsTally (record t { empties = t.empties + 1 }) (parts ++ b.now ∷ [])
  IsTally-empty kind = record {
    empties = ap (λ n. n + 1) tally.empties ∙ sym (count_by-push_yes is_empty parts b.now kind.1);
    subpackages = tally.subpackages ∙ sym (count_by-push_no is_subpackage parts b.now kind.2);
    subpackage = tally.subpackage ∙ sym (find-push_no is_subpackage parts b.now kind.2);
    flavors = tally.flavors ∙ sym (count_by-push_no is_flavor parts b.now kind.3);
    flavor = tally.flavor ∙ sym (find-push_no is_flavor parts b.now kind.3);
  }

  pub IsTally-subpackage : IsOfKind Subpackage b.now → IsTally (record t { subpackages = t.subpackages + 1; subpackage = option_or t.subpackage (Some b) }) (parts ++ b.now ∷ [])
  IsTally-subpackage kind = record {
    empties = tally.empties ∙ sym (count_by-push_no is_empty parts b.now kind.1);
    subpackages = ap (λ n. n + 1) tally.subpackages ∙ sym (count_by-push_yes is_subpackage parts b.now kind.2);
    subpackage = option_copied-or t.subpackage b ∙ ap (λ o. option_or o (Some b.now)) tally.subpackage ∙ sym (find-push_yes is_subpackage parts b.now kind.2);
    flavors = tally.flavors ∙ sym (count_by-push_no is_flavor parts b.now kind.3);
    flavor = tally.flavor ∙ sym (find-push_no is_flavor parts b.now kind.3);
  }

  pub IsTally-flavor : IsOfKind Flavor b.now → IsTally (record t { flavors = t.flavors + 1; flavor = option_or t.flavor (Some b) }) (parts ++ b.now ∷ [])
  IsTally-flavor kind = record {
    empties = tally.empties ∙ sym (count_by-push_no is_empty parts b.now kind.1);
    subpackages = tally.subpackages ∙ sym (count_by-push_no is_subpackage parts b.now kind.2);
    subpackage = tally.subpackage ∙ sym (find-push_no is_subpackage parts b.now kind.2);
    flavors = ap (λ n. n + 1) tally.flavors ∙ sym (count_by-push_yes is_flavor parts b.now kind.3);
    flavor = option_copied-or t.flavor b ∙ ap (λ o. option_or o (Some b.now)) tally.flavor ∙ sym (find-push_yes is_flavor parts b.now kind.3);
  }
