-- A text of held package paths, one in each line, for a tree.
use Rattle.std.specs.Prelude.{◌≡◌, ◌<◌, ◌↔◌, ℕ, Bool, true, false, length, take, slice_get, All, Any, IsErr, Ok, Some}
use Rattle.engine.specs.Ignored.{IsIgnored}
use Rattle.faults.specs.Bytes.{Text, is_empty}
use Rattle.listing.specs.Lines.{Line, lines_of}
use Rattle.listing.specs.Tree.{Tree, path_at}
use Rattle.pkgpath.specs.PkgPath.{path_of}
use Rattle.dpbr_status.specs.declared.held.HeldFault.{HeldFault}
use Rattle.dpbr_status.specs.declared.held.HeldFault.TheVariants.{Memory, BadList, Unlisted, Ignored}

-- the text spells the path of the package at the position
pub record Names (tree : Tree) (text : Text) (p : ℕ) : Type 0 where
  pub listed : p < length tree
  pub spelled : path_of text ≡ Ok (path_at tree p)

-- a package of the tree has the path
abbrev pub IsListed : Tree → Text → Type 0
IsListed tree path = (p : ℕ) × (p < length tree) × (path_at tree p ≡ path)

-- the fault of a line: it isn't empty and isn't a path, its path is not listed, or its package is
-- ignored
abbrev pub IsFaultOf : Tree → Line → HeldFault → Type 0
IsFaultOf tree line Memory = ⊥
IsFaultOf tree line (BadList n) = (n ≡ line.0) × (is_empty line.1 ≡ false) × IsErr (path_of line.1)
IsFaultOf tree line (Unlisted n) =
    (n ≡ line.0) × (path : Text) × (path_of line.1 ≡ Ok path) × ¬ IsListed tree path
IsFaultOf tree line (Ignored n) = (n ≡ line.0) × (p : ℕ) × Names tree line.1 p × IsIgnored tree p

-- the line has no fault
abbrev pub IsFaultless : Tree → Line → Type 0
IsFaultless tree line = (e : HeldFault) → ¬ IsFaultOf tree line e

-- the fault of the first faulty line
pub record IsFirstFault (tree : Tree) (text : Text) (e : HeldFault) : Type 0 where
  pub place : ℕ
  pub line : Line
  pub stands : slice_get (lines_of text) place ≡ Some line
  pub fault : IsFaultOf tree line e
  pub before : All (IsFaultless tree) (take place (lines_of text))

-- no line is faulty, and exactly the packages that lines name are held
pub record AreHeld (tree : Tree) (text : Text) (held : ℕ → Bool) : Type 0 where
  pub faultless : All (IsFaultless tree) (lines_of text)
  pub named : (p : ℕ) → (held p ≡ true) ↔ Any (λ (line : Line). Names tree line.1 p) (lines_of text)
