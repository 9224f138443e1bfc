-- The digest's lines of groups.
use Rattle.std.proofs.Common.{◌≡◌, ◌<◌, ◌≤◌, ◌+◌, ◌++◌, ℕ, zero, suc, Bool, true, false, codes, cond, List, [], ◌∷◌, length, map, nat_le, refl, sym, ap, subst, ◌∙◌, arith, if◌then◌else◌}
use Rattle.std.specs.Prelude.{count_by}
use Rattle.std.specs.List.{flat_map}
use Rattle.std.specs.Str.{bytes_eq}
use Rattle.std.proofs.lemmas.Bool.Decides.{nat_tests}
use Rattle.std.proofs.lemmas.List.{append-nil}
use Rattle.std.proofs.lemmas.List.Sums.{sum_by-cons}
use Rattle.faults.specs.Bytes.{Text}
use Rattle.listing.specs.Digest.{digest_text, group_line, groups_of, line, packages_text, size_of_group}
use Rattle.listing.specs.Laws.{AreAlone}
use Rattle.listing.specs.Tree.{Package, Tree, group_at}
use Rattle.listing.specs.inside.Groups.{lines_of_groups, size_in}
use Rattle.listing.proofs.Settings.{same_text}

-- Whether the package is in the group.
abbrev is_of : Text → Package → Bool
is_of group x = bytes_eq x.group group

none_of : (group : Text) (xs : Tree) → ((k : ℕ) → k < length xs → bytes_eq (group_at xs k) group ≡ true → ⊥) → count_by (is_of group) xs ≡ 0
none_of group [] none = refl
none_of group (x ∷ xs) none = by (is_of group x) refl (none_of group xs (λ k within is. none (suc k) (omega (arith, within)) is))
  where
    by : (b : Bool) → is_of group x ≡ b → count_by (is_of group) xs ≡ 0 → count_by (is_of group) (x ∷ xs) ≡ 0
    by true is rest = absurd (none zero (omega arith) is)
    by false is rest = rw is rest

few_of : (group : Text) (tree : Tree) → AreAlone tree → count_by (is_of group) tree ≤ 1
few_of group [] alone = omega arith
few_of group (x ∷ xs) alone =
    by (is_of group x) refl (few_of group xs (λ p q lp lq same. omega (arith, alone (suc p) (suc q) (omega (arith, lp)) (omega (arith, lq)) same)))
  where
    by : (b : Bool) → is_of group x ≡ b → count_by (is_of group) xs ≤ 1 → count_by (is_of group) (x ∷ xs) ≤ 1
    by false is rest = rw is rest
    by true is rest =
        let none : count_by (is_of group) xs ≡ 0 = none_of group xs
        (λ k within at. absurd (omega (arith, alone zero (suc k) (omega arith) (omega (arith, within)) (same_text x.group group is ∙ sym (same_text (group_at xs k) group at))))) in
        let one : cond (is_of group x) 1 0 ≡ 1 = ap (λ b. cond b 1 0) is in
        let all : count_by (is_of group) (x ∷ xs) ≡ 1 = sum_by-cons (λ (y : Package). cond (is_of group y) 1 0) x xs ∙ (λ i. one i + none i) in
        subst (λ n. n ≤ 1) (sym all) (omega arith)

no_lines : (tree : Tree) (groups : List Text) → AreAlone tree → flat_map (group_line tree) groups ≡ []
no_lines tree [] alone = refl
no_lines tree (g ∷ gs) alone =
    let few = few_of g tree alone in
    let small : nat_le 2 (size_of_group tree g) ≡ false = grind (arith, nat_tests, few) in
    rw small (no_lines tree gs alone)

pub lone_packages : (tree : Tree) → AreAlone tree → digest_text tree ≡ packages_text tree
unfolding digest_text
lone_packages tree alone = ap (λ t. packages_text tree ++ t) (no_lines tree (groups_of tree) alone) ∙ append-nil (packages_text tree)

-- ---- the lines depend only on the groups' names

size_by_names : (group : Text) (tree : Tree) → size_in (map (λ (x : Package). x.group) tree) group ≡ size_of_group tree group
size_by_names group [] = refl
size_by_names group (x ∷ xs) =
    sum_by-cons (λ (name : Text). cond (bytes_eq name group) 1 0) x.group (map (λ (y : Package). y.group) xs)
    ∙ ap (λ n. cond (is_of group x) 1 0 + n) (size_by_names group xs)
    ∙ sym (sum_by-cons (λ (y : Package). cond (is_of group y) 1 0) x xs)

pub lines_by_names : (tree : Tree) → lines_of_groups (map (λ (x : Package). x.group) tree) ≡ flat_map (group_line tree) (groups_of tree)
lines_by_names tree = λ i. flat_map (λ (group : Text). if nat_le 2 (size_by_names group tree i) then line (codes "G " ++ group) else []) (groups_of tree)

pub digest_is : (tree : Tree) → packages_text tree ++ lines_of_groups (map (λ (x : Package). x.group) tree) ≡ digest_text tree
unfolding digest_text
digest_is tree = ap (λ t. packages_text tree ++ t) (lines_by_names tree)
