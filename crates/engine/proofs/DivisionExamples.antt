-- Units of small trees, computed.
use Rattle.std.proofs.Common.{◌≡◌, ◌==◌, ◌||◌, ℕ, Bool, true, false, zero, suc, None, Some, refl, sym, codes, List, [], ◌∷◌}
use mathlib.Core.Bool.{true≢false}
use Rattle.faults.specs.Bytes.{Text}
use Rattle.listing.specs.Tree.{Package, Tree, is_marked_at}
use Rattle.engine.specs.Division.{Division, number_found, number_of}
use Rattle.engine.specs.Ignored.{AreTheIgnored}
use Rattle.engine.specs.Units.{AreUnits, Unit, units_with}
use Rattle.engine.proofs.ExampleTrees.{listed, pair, pair_free, single_pair, trio}

-- nothing is ignored
abbrev none : ℕ → Bool
none p = false

abbrev unit : Text → List ℕ → List ℕ → Unit
unit name packages build = record { name = name; packages = packages; build = build }

-- ---- two packages of one group, of which the second needs the first to be built

-- one build makes both, and needs neither
example_pair : units_with pair none ≡ unit (codes "a/b") (0 ∷ 1 ∷ []) [] ∷ []
example_pair = refl

-- if nothing is marked, nothing is ignored: the empty set contains the marked packages
free : (tree : Tree) → ((q : ℕ) → is_marked_at tree q ≡ true → ⊥) → AreTheIgnored tree none
free tree unmarked p = (
  λ h. absurd (true≢false (sym h)),
  λ ignored. ignored none (record {
    marked = λ q _ h. absurd (unmarked q h);
    build = λ q d _ _ h. h;
    run = λ q d _ _ h. h;
  }),
)

example_pair_units : AreUnits pair (unit (codes "a/b") (0 ∷ 1 ∷ []) [] ∷ [])
example_pair_units = record { ignored = none; are_ignored = free pair pair_free; are = refl }

-- if each is a group of its own, each is a unit, and the second needs the first
example_single_pair : units_with single_pair none ≡ unit (codes "a/b,-x") (0 ∷ []) [] ∷ unit (codes "a/b,-y") (1 ∷ []) (0 ∷ []) ∷ []
example_single_pair = refl

-- ---- two packages of one group, of which the first needs a third to be built

example_trio : units_with trio none ≡ unit (codes "c/d") (0 ∷ 1 ∷ []) (2 ∷ []) ∷ unit (codes "e/f") (2 ∷ []) [] ∷ []
example_trio = refl

-- ---- units by lowest position, packages by path, and what is ignored

-- the group's own path is listed and ignored; one of the other packages is before a single package,
-- one after it
abbrev scattered : Tree
scattered =
    listed (codes "a/b") (codes "a/b") [] ∷ listed (codes "a/b,-z") (codes "a/b") (2 ∷ 3 ∷ []) ∷ listed (codes "e/f") (codes "e/f") (2 ∷ [])
    ∷ listed (codes "a/b,-c") (codes "a/b") (3 ∷ []) ∷ []

abbrev first_ignored : ℕ → Bool
first_ignored p = p == 0

-- a single package may need itself, but two of one unit do not need each other
example_scattered : units_with scattered first_ignored ≡ unit (codes "a/b") (3 ∷ 1 ∷ []) (2 ∷ []) ∷ unit (codes "e/f") (2 ∷ []) (2 ∷ []) ∷ []
example_scattered = refl

-- if only one of a group is left, it is a unit of its own, with its own name
example_one_left : units_with scattered (λ p. p == 0 || p == 3) ≡ unit (codes "a/b,-z") (1 ∷ []) (2 ∷ 3 ∷ []) ∷ unit (codes "e/f") (2 ∷ []) (2 ∷ []) ∷ []
example_one_left = refl

-- ---- how units are found

abbrev division : Division
division = record { tree = scattered; units = units_with scattered first_ignored }

-- the unit's name takes precedence over an ignored path with the same text
example_by_name : number_found division (codes "a/b") ≡ Some 0
example_by_name = refl

example_by_path : number_found division (codes "a/b,-c") ≡ Some 0
example_by_path = refl

example_unknown : number_found division (codes "a/b,-q") ≡ None
example_unknown = refl

example_ignored : number_of division 0 ≡ None
example_ignored = refl

-- an ignored path that is not the name of a unit finds nothing
example_ignored_path : number_found (record { tree = scattered; units = units_with scattered (λ p. p == 0 || p == 3) }) (codes "a/b") ≡ None
example_ignored_path = refl
