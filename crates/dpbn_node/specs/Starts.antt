-- The log that a node of a run starts on.
use Rattle.std.specs.Prelude.{◌≡◌, ⊤, ℕ, Bool, List, Option}
use Rattle.faults.specs.Bytes.{Text}
use Rattle.listing.specs.Digest.{digest_text}
use Rattle.listing.specs.Tree.{Tree}
use Rattle.program_io.specs.declared.refusal.Refusal.{Refusal}
use Rattle.run_file.specs.Refusals.{number_of_start, place_of_start}
use Rattle.run_file.specs.Starts.{RefusesStart}
use Rattle.run_file.specs.declared.fault.StartFault.{StartFault}
use Rattle.sha2.specs.Sha256.{sha256}
use Rattle.stable_record.specs.declared.identity.Identity.{Identity}

-- the owner of the log: this member, among members with these weights, over the tree
abbrev pub owner : Tree → List ℕ → ℕ → Identity
owner tree weights me = record {
  tree = sha256 (digest_text tree);
  weights = record { items = weights };
  me = me;
}

-- Each folder may have any mode: no contract says what mode a folder of the system has.
abbrev pub AnyMode : ℕ → Type 0
AnyMode mode = ⊤

-- Each read of a run file may have given any text or found no file: no contract says what the
-- system's files give.
abbrev pub AnyRunFile : Option Text → Type 0
AnyRunFile text = ⊤

-- what is reported if the owner's node doesn't start on the log and the run file that it finds, in
-- a run whose key is shown as this
abbrev pub IsStartRefusal : (ℕ → Type 0) → (Option Text → Type 0) → Identity → Option Text → Bool
    → Refusal → Type 0
IsStartRefusal had_mode gave i shown is_continued r =
    (f : StartFault) × RefusesStart had_mode gave i shown is_continued f
    × (r ≡ record { number = number_of_start f; place = place_of_start f })
