-- Cached digests of files.
use Rattle.std.proofs.Common.{◌≡◌, ℕ, suc, zero, ◌<◌, List, [], ◌∷◌, length, get_or, map, ap, sym, refl, arith}
use Rattle.sha2.specs.Sha256.{sha256}
use Rattle.package_record.specs.declared.file.File.{File}
use Rattle.package_record.specs.FileView.{file_view}
use Rattle.package_record.specs.inside.Hashed.{digest_at, digests_of}

-- the cached digest at a place is that of the file there
pub kept_digest : (files : List File) (index : ℕ) (other : List ℕ) → index < length (map file_view files) → get_or (digests_of files) index other ≡ digest_at (map file_view files) index
kept_digest [] index other lt = elim lt [ ]
kept_digest (f ∷ files) zero other lt = refl
kept_digest (f ∷ files) (suc n) other lt = kept_digest files n other (omega (arith, lt))

-- contracts see a file at its place
pub seen_at : (files : List File) (index : ℕ) (file : File) → index < length files → file ≡ get_or files index file → file_view file ≡ get_or (map file_view files) index (file_view file)
seen_at [] index file lt e = elim lt [ ]
seen_at (f ∷ files) zero file lt e = ap file_view e
seen_at (f ∷ files) (suc n) file lt e = seen_at files n file (omega (arith, lt)) e

-- the digest of the file at a place
pub digest_there : (files : List File) (index : ℕ) (file : File) → index < length files → file ≡ get_or files index file → digest_at (map file_view files) index ≡ sha256 file.bytes.items
digest_there [] index file lt e = elim lt [ ]
digest_there (f ∷ files) zero file lt e = ap (λ (y : File). sha256 y.bytes.items) (sym e)
digest_there (f ∷ files) (suc n) file lt e = digest_there files n file (omega (arith, lt)) e
