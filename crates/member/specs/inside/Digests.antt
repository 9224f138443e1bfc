-- The digests of records.
use Rattle.std.specs.Prelude.{◌≡◌, ◌<◌, ℕ, List, Option, Some, length}
use Rattle.std.specs.List.{slice_index_or}
use Rattle.sha2.specs.Sha256.{sha256}
use Rattle.package_record.specs.Content.{Content, record_text}

-- the SHA-256 of the record's text
abbrev pub digest_of : Content → List ℕ
digest_of r = sha256 (record_text r)

-- There is one optional digest for each record, and each digest present is that of its record.
pub record AreDigests (digests : List (Option (List ℕ))) (records : List Content) : Type 0 where
  pub each : length digests ≡ length records
  pub right : (place : ℕ) (digest : List ℕ) (r : Content) (other : Option (List ℕ))
      → place < length digests → slice_index_or digests place other ≡ Some digest
      → digest ≡ digest_of (slice_index_or records place r)
