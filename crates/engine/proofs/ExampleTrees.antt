-- Small trees for examples.
use Rattle.std.proofs.Common.{◌≡◌, ℕ, true, false, zero, suc, sym, codes, List, [], ◌∷◌}
use mathlib.Core.Bool.{true≢false}
use Rattle.faults.specs.Bytes.{Text}
use Rattle.listing.specs.Tree.{Package, Tree, is_marked_at}

abbrev pub listed : Text → Text → List ℕ → Package
listed path group build = record { path = path; group = group; name = codes "x-1"; build = build; run = []; is_marked = false }

-- two packages of one group, of which the second needs the first to be built
abbrev pub pair : Tree
pair = listed (codes "a/b,-x") (codes "a/b") [] ∷ listed (codes "a/b,-y") (codes "a/b") (0 ∷ []) ∷ []

pub pair_free : (q : ℕ) → is_marked_at pair q ≡ true → ⊥
pair_free zero h = true≢false (sym h)
pair_free (suc zero) h = true≢false (sym h)
pair_free (suc (suc q)) h = true≢false (sym h)

-- the same two, each a group of its own
abbrev pub single_pair : Tree
single_pair = listed (codes "a/b,-x") (codes "a/b,-x") [] ∷ listed (codes "a/b,-y") (codes "a/b,-y") (0 ∷ []) ∷ []

-- two packages of one group, of which the first needs a third to be built
abbrev pub trio : Tree
trio = listed (codes "c/d,-p") (codes "c/d") (2 ∷ []) ∷ listed (codes "c/d,-q") (codes "c/d") [] ∷ listed (codes "e/f") (codes "e/f") [] ∷ []
