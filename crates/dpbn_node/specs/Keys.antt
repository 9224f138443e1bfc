-- The key of a run.
use Rattle.std.specs.Prelude.{◌≡◌, ⊤, ℕ, List, Option, None, Some, option_map}
use Rattle.dpbn_key.specs.Keys.{IsKeyAt, RefusesKey}
use Rattle.dpbn_key.specs.Refusals.{number_of}
use Rattle.dpbn_key.specs.declared.fault.KeyFault.{KeyFault}
use Rattle.faults.specs.Bytes.{Text}
use Rattle.listing.specs.Digest.{digest_text}
use Rattle.listing.specs.Tree.{Tree}
use Rattle.program_io.specs.declared.refusal.Refusal.{Refusal}
use Rattle.seals.specs.Run.{fingerprint, run_key}
use Rattle.sha2.specs.Sha256.{sha256}

-- Each read of a key's file may have given each mode and each text: no contract says what the
-- system's files give.
abbrev pub AnyKeyFile : Text → ℕ → Text → Type 0
AnyKeyFile name mode text = ⊤

-- If a file is named, a read of it gave the key. Otherwise there is no key. `gave` says which mode
-- and text a read of a name gave.
abbrev pub IsKeyOf : (Text → ℕ → Text → Type 0) → Option Text → Option Text → Type 0
IsKeyOf gave None key = key ≡ None
IsKeyOf gave (Some name) None = ⊥
IsKeyOf gave (Some name) (Some key) = IsKeyAt gave name key

-- what is reported about the file: it can't be read, others may read or write it, or it has no key
abbrev pub RefusesKeyFile : (Text → ℕ → Text → Type 0) → Option Text → Refusal → Type 0
RefusesKeyFile gave None r = ⊥
RefusesKeyFile gave (Some name) r =
    (f : KeyFault) × RefusesKey gave name f × (r ≡ record { number = number_of f; place = None })

-- the key that datagrams are sealed with in the run over the tree, among members with these
-- weights, if the run has a key
abbrev pub seal_of : Tree → List ℕ → Option Text → Option Text
seal_of tree weights key =
    option_map (λ k. run_key k (sha256 (digest_text tree)) weights) key

-- what the run file shows of the key
abbrev pub shown_of : Option Text → Option Text
shown_of key = option_map fingerprint key
