-- Lists of packages as texts, line by line.
use Rattle.std.specs.Prelude.{◌≡◌, ◌<◌, ◌+◌, ℕ, List, [], ◌∷◌, codes, length, map, take, Ok, if◌then◌else◌}
use Rattle.std.specs.List.{AllZip, flat_map}
use Rattle.hex.specs.Hex.{decode_sized, encode_lower}
use Rattle.faults.specs.Bytes.{Text, blank, is_empty, line_feed}
use Rattle.faults.specs.Pieces.{pieces_at}
use Rattle.pkgname.specs.PkgName.{name_of}
use Rattle.pkgpath.specs.PkgPath.{path_of}
use Rattle.claims.specs.declared.deps.Dep.{Dep}
use Rattle.auditing.specs.declared.entry.Entry.{Entry}
use Rattle.package_lists.specs.declared.list.ListFault.{ListFault}
use Rattle.package_lists.specs.declared.list.ListFault.TheVariants.{Memory, BadList}
use Rattle.package_lists.specs.declared.list_line.ListLine.{ListLine}
use Rattle.package_lists.specs.declared.list_line.ListLine.TheVariants.{Package, Built}

-- ---- lines

-- the pieces, without the last one if it is empty
abbrev pub without_empty_end : List Text → List Text
without_empty_end [] = []
without_empty_end (t ∷ []) = if is_empty t then [] else t ∷ []
without_empty_end (t ∷ u ∷ ts) = t ∷ without_empty_end (u ∷ ts)

-- the lines, each ended by LF; the last may lack it
unfoldable pub lines_in : Text → List Text
lines_in text = without_empty_end (pieces_at line_feed text)

-- the texts spell the package's path and name, and its digest in 64 lower-case hexadecimal digits
pub record Spells (path name digest : Text) (d : Dep) : Type 0 where
  pub path_is : path_of path ≡ Ok d.path
  pub name_is : name_of name ≡ Ok d.name
  pub digest_is : decode_sized digest 32 ≡ Ok d.digest
  pub lower : encode_lower d.digest ≡ digest

-- the line is the word, a path, a name and a digest, separated by single spaces, which spell the
-- package
pub record Names (word line : Text) (d : Dep) : Type 0 where
  pub path : Text
  pub name : Text
  pub digest : Text
  pub fields : pieces_at blank line ≡ word ∷ path ∷ name ∷ digest ∷ []
  pub spelled : Spells path name digest d

-- the line says this about a package, or about one that it was built on
abbrev pub Says : Text → ListLine → Type 0
Says line (Package d) = Names (codes "package") line d
Says line (Built d) = Names (codes "built") line d

-- ---- whole lists

-- the lines of an entry: the package itself, and then each that it was built on
abbrev pub said_of : Entry → List ListLine
said_of e = Package (record { path = e.path; name = e.name; digest = e.digest }) ∷ map Built e.built

-- the lines are those of the entries, in their order, and no others
abbrev pub AreSaid : List Text → List Entry → Type 0
AreSaid lines entries = AllZip Says lines (flat_map said_of entries)

-- the entries of the list that the text is
abbrev pub AreEntries : Text → List Entry → Type 0
AreEntries text entries = AreSaid (lines_in text) entries

-- the lines are a list of packages
abbrev pub AreList : List Text → Type 0
AreList lines = (entries : List Entry) × AreSaid lines entries

-- the lines before this one are a list, but not together with it
pub record IsFirstBadAt (lines : List Text) (place : ℕ) : Type 0 where
  pub within : place < length lines
  pub before : AreList (take place lines)
  pub bad : ¬ AreList (take (place + 1) lines)

-- the fault names the first line that can't be one of a list, counted from 1
abbrev pub IsFirstBadLine : Text → ListFault → Type 0
IsFirstBadLine text Memory = ⊥
IsFirstBadLine text (BadList number) =
    (place : ℕ) × (number ≡ place + 1) × IsFirstBadAt (lines_in text) place
