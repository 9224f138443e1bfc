-- Digests that are kept with files.
use Rattle.std.specs.Prelude.{ℕ, List, [], map}
use Rattle.std.specs.List.{slice_index_or}
use Rattle.sha2.specs.Sha256.{sha256}
use Rattle.package_record.specs.Content.{NamedFile}
use Rattle.package_record.specs.declared.file.File.{File}

-- the SHA-256 of each file's bytes
abbrev pub digests_of : List File → List (List ℕ)
digests_of files = map (λ (file : File). sha256 file.bytes.items) files

-- the SHA-256 of the bytes of the file at this place
abbrev pub digest_at : List NamedFile → ℕ → List ℕ
digest_at files index =
    sha256 (slice_index_or files index (record { name = []; bytes = [] })).bytes
