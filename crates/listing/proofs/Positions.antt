-- A tree's packages by position.
use Rattle.std.proofs.Common.{◌≡◌, ◌<◌, ℕ, suc, zero, not, cond, List, [], ◌∷◌, length, position, nat_lt, Some, None, ◌+◌, get_or, subst, sym, ap, refl, ◌∙◌, arith, map}
use Rattle.std.specs.List.{prefix_len}
use Rattle.std.specs.Str.{bytes_eq}
use Rattle.std.specs.Cmp.Lexicographic.{nat_list_eq_equiv}
use Rattle.std.proofs.lemmas.List.{get_or-map}
use Rattle.std.proofs.lemmas.List.Elements.{All-get_or}
use Rattle.faults.specs.Bytes.{Text}
use Rattle.listing.specs.inside.BarePackages.{package_of_bare, packages_of}
use Rattle.listing.specs.Tree.{ArePositions, IsTree, Package, Tree, no_package, group_at, package_at, path_at}
use Rattle.listing.specs.declared.bare_package.BarePackage.{BarePackage}

pub length-packages_of : (g : Text → Text) (ps : List Text) (ns : List BarePackage) → length ns ≡ length ps → length (packages_of g ps ns) ≡ length ps
length-packages_of g [] ns e = refl
length-packages_of g (p ∷ ps) [] e = absurd (omega arith)
length-packages_of g (p ∷ ps) (n ∷ ns) e = ap suc (length-packages_of g ps ns (omega arith))

pub package_at-packages_of : (g : Text → Text) (ps : List Text) (ns : List BarePackage) (i : ℕ) (n : BarePackage) → length ns ≡ length ps → i < length ps → n ≡ get_or ns i n
    → package_at (packages_of g ps ns) i ≡ package_of_bare g (get_or ps i []) n
package_at-packages_of g [] ns i n e l h = absurd (omega arith)
package_at-packages_of g (p ∷ ps) [] i n e l h = absurd (omega arith)
package_at-packages_of g (p ∷ ps) (m ∷ ns) zero n e l h = ap (package_of_bare g p) (sym h)
package_at-packages_of g (p ∷ ps) (m ∷ ns) (suc i) n e l h = package_at-packages_of g ps ns i n (omega arith) (omega arith) h

-- a position of the tree is an index of the paths and of the bare packages
pub within_bare_packages : (g : Text → Text) (tree : Tree) (ps : List Text) (ns : List BarePackage) (i : ℕ) → packages_of g ps ns ≡ tree → length ns ≡ length ps → i < length tree → i < length ns
within_bare_packages g tree ps ns i seen same within = omega (arith, length-packages_of g ps ns same, ap length seen)

-- the package at a position is made of the path and the bare package there
pub bare_package_at : (g : Text → Text) (tree : Tree) (ps : List Text) (ns : List BarePackage) (i : ℕ) (n : BarePackage) → packages_of g ps ns ≡ tree → length ns ≡ length ps → i < length tree
    → n ≡ get_or ns i n → package_of_bare g (get_or ps i []) n ≡ package_at tree i
bare_package_at g tree ps ns i n seen same within here =
    sym (package_at-packages_of g ps ns i n same (omega (arith, within_bare_packages g tree ps ns i seen same within)) here) ∙ ap (λ t. package_at t i) seen

-- the dependencies of a package are positions of the tree
pub build_positions : (tree : Tree) (i : ℕ) (x : Package) → x ≡ package_at tree i → i < length tree → IsTree tree → ArePositions tree x.build
build_positions tree i x here within is_tree =
    subst (λ (y : Package). ArePositions tree y.build) (sym here) (All-get_or (λ y. ArePositions tree y.build) tree i no_package within is_tree.build)

pub run_positions : (tree : Tree) (i : ℕ) (x : Package) → x ≡ package_at tree i → i < length tree → IsTree tree → ArePositions tree x.run
run_positions tree i x here within is_tree =
    subst (λ (y : Package). ArePositions tree y.run) (sym here) (All-get_or (λ y. ArePositions tree y.run) tree i no_package within is_tree.run)

path_at-packages_of : (g : Text → Text) (ps : List Text) (ns : List BarePackage) (i : ℕ) (x : Text) → length ns ≡ length ps → i < length ps → x ≡ get_or ps i x → x ≡ path_at (packages_of g ps ns) i
path_at-packages_of g [] ns i x e l h = absurd (omega arith)
path_at-packages_of g (p ∷ ps) [] i x e l h = absurd (omega arith)
path_at-packages_of g (p ∷ ps) (m ∷ ns) zero x e l h = h
path_at-packages_of g (p ∷ ps) (m ∷ ns) (suc i) x e l h = path_at-packages_of g ps ns i x (omega arith) (omega arith) h

pub within_paths : (g : Text → Text) (tree : Tree) (ps : List Text) (ns : List BarePackage) (i : ℕ) → packages_of g ps ns ≡ tree → length ns ≡ length ps → i < length tree → i < length ps
within_paths g tree ps ns i seen same within = omega (arith, length-packages_of g ps ns same, ap length seen)

pub path_there : (g : Text → Text) (tree : Tree) (ps : List Text) (ns : List BarePackage) (i : ℕ) (x : Text) → packages_of g ps ns ≡ tree → length ns ≡ length ps → i < length tree
    → x ≡ get_or ps i x → x ≡ path_at tree i
path_there g tree ps ns i x seen same within here =
    path_at-packages_of g ps ns i x same (within_paths g tree ps ns i seen same within) here ∙ ap (λ t. path_at t i) seen

-- the position of a path among the packages
places-packages_of : (g : Text → Text) (ps : List Text) (ns : List BarePackage) (q : Text) → length ns ≡ length ps
    → prefix_len (λ (x : Package). not (bytes_eq x.path q)) (packages_of g ps ns) ≡ prefix_len (λ p. not (bytes_eq q p)) ps
places-packages_of g [] ns q e = refl
places-packages_of g (p ∷ ps) [] q e = absurd (omega arith)
places-packages_of g (p ∷ ps) (m ∷ ns) q e =
    let more = places-packages_of g ps ns q (omega arith) in
    let flip : bytes_eq p q ≡ bytes_eq q p = nat_list_eq_equiv.symm p q in
    λ i. cond (not (flip i)) (1 + more i) 0

pub position-packages_of : (g : Text → Text) (tree : Tree) (ps : List Text) (ns : List BarePackage) (q : Text) → packages_of g ps ns ≡ tree → length ns ≡ length ps
    → position (bytes_eq q) ps ≡ position (λ (x : Package). bytes_eq x.path q) tree
position-packages_of g tree ps ns q seen same =
    let place = sym (places-packages_of g ps ns q same) in
    let size = sym (length-packages_of g ps ns same) in
    let there : position (bytes_eq q) ps ≡ position (λ (x : Package). bytes_eq x.path q) (packages_of g ps ns) = λ i. cond (nat_lt (place i) (size i)) (Some (place i)) None in
    there ∙ ap (position (λ (x : Package). bytes_eq x.path q)) seen

-- ---- groups

pub groups-packages_of : (g : Text → Text) (ps : List Text) (ns : List BarePackage) → length ns ≡ length ps → map (λ (x : Package). x.group) (packages_of g ps ns) ≡ map g ps
groups-packages_of g [] ns e = refl
groups-packages_of g (p ∷ ps) [] e = absurd (omega arith)
groups-packages_of g (p ∷ ps) (m ∷ ns) e = ap (λ gs. g p ∷ gs) (groups-packages_of g ps ns (omega arith))

pub group_there : (tree : Tree) (groups : List Text) (i : ℕ) → groups ≡ map (λ (x : Package). x.group) tree → i < length tree → get_or groups i [] ≡ group_at tree i
group_there tree groups i are within = ap (λ gs. get_or gs i []) are ∙ get_or-map (λ (x : Package). x.group) tree i no_package [] within
