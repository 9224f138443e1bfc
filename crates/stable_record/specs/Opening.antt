-- What opening a file returns.
use Rattle.std.specs.Prelude.{◌≡◌, ◌≢◌, ◌⊎◌, ◌↔◌, ℕ, ◌+◌, ◌<◌, ◌≤◌, ◌^◌, All, List, [], ◌∷◌, ◌++◌, length, take, drop, Some, Result, Ok, Err, slice_get, slice_index}
use Rattle.std.specs.Int.{w32, from_be_bytes}
use Rattle.stable_record.specs.declared.identity.Identity.{Identity}
use Rattle.stable_record.specs.declared.log_fault.LogFault.{LogFault}
use Rattle.stable_record.specs.declared.log_fault.LogFault.TheVariants.{Memory, Device, Full, MustReopen, NotALog, OtherCluster}
use Rattle.stable_record.specs.Log.{Note, HasNotes, magic, header, log_file, open_gate, closed_gate}
use Rattle.stable_record.specs.History.{History, IsBytes}
use Rattle.stable_record.specs.Magic.{HasMagic, plain_magic, weighted_magic}
use Rattle.stable_record.specs.Crash.{MayLeave}

-- the length of a log without notes: two gates and the header
abbrev pub shortest : Identity → ℕ
shortest i = 2 + length (header i)

-- The file has the header of this owner after its first byte.
abbrev pub IsAsOwner : Identity → List ℕ → Type 0
IsAsOwner i file = take (length (header i)) (drop 1 file) ≡ header i

-- A log must be created in this file, in three cases. The file has at most one byte. Or it is no
-- longer than a log without notes, and its first byte is 0. Or it is exactly that long, its first
-- byte isn't 1, and the right magic comes after that byte.
pub data IsBlank (i : Identity) (file : List ℕ) : Type 0 where
  no_more_than_a_gate : length file ≤ 1 → IsBlank i file
  begun : length file ≤ shortest i → slice_get file 0 ≡ Some closed_gate → IsBlank i file
  not_opened : length file ≡ shortest i → slice_get file 0 ≢ Some open_gate
      → HasMagic (magic i) file → IsBlank i file

-- The file is a log, whoever opens it: it has at least 44 bytes, the first byte is 1, and one of
-- the two magics comes after it.
pub record IsLog (file : List ℕ) : Type 0 where
  pub long_enough : 44 ≤ length file
  pub is_open : slice_get file 0 ≡ Some open_gate
  pub is_magic : HasMagic plain_magic file ⊎ HasMagic weighted_magic file

-- A log with weights is too short to have those of all its members, whose number is byte 41.
pub record LacksWeights (file : List ℕ) : Type 0 where
  pub is_weighted : HasMagic weighted_magic file
  pub too_short : length file < 44 + slice_index file 41

-- There is no gate; or it is open, and the length, the note or the gate after it is incomplete.
abbrev pub IsCutShort : List ℕ → Type 0
IsCutShort [] = Unit {0}
IsCutShort (gate ∷ rest) =
    (gate ≡ open_gate) × (length rest < 4 + from_be_bytes w32 (take 4 rest) + 1)

-- The file is truncated after some whole notes.
pub record IsBroken (i : Identity) (file : List ℕ) : Type 0 where
  pub whole : List Note
  pub end : List ℕ
  pub parts : file ≡ log_file i whole end
  pub lengths : All (λ note. length note < 2 ^ 32) whole
  pub cut_short : IsCutShort end

-- For this owner the file is not a log: it is neither blank for it nor anybody's log; or it is a
-- log that lacks weights, or is truncated after the right header. Another owner may still find it
-- blank: 47 bytes that begin with 0 are blank for one of three members with weights, but not for
-- others.
pub data IsNoLog (i : Identity) (file : List ℕ) : Type 0 where
  neither : ¬ (IsBlank i file) → ¬ (IsLog file) → IsNoLog i file
  lacks_weights : IsLog file → LacksWeights file → IsNoLog i file
  broken : IsBroken i file → IsNoLog i file

-- The file is a log with another owner: magic, tree, members, own number or weights differ.
pub record IsOfOthers (i : Identity) (file : List ℕ) : Type 0 where
  pub is_log : IsLog file
  pub has_weights : ¬ (LacksWeights file)
  pub differs : ¬ (IsAsOwner i file)

-- what opening a file returns, unless memory runs out or the device fails
abbrev pub Opens : Identity → List ℕ → Result (List Note) LogFault → Type 0
Opens i file (Ok notes) = (IsBlank i file × (notes ≡ [])) ⊎ HasNotes i notes file
Opens i file (Err OtherCluster) = IsOfOthers i file
Opens i file (Err NotALog) = IsNoLog i file
Opens i file (Err Memory) = ⊥
Opens i file (Err Device) = ⊥
Opens i file (Err Full) = ⊥
Opens i file (Err MustReopen) = ⊥

-- Opening the file returns the same as opening some file of bytes that a crash at the start could
-- have left.
pub record OpensAsLeft (i : Identity) (start : History) (file : List ℕ) : Type 0 where
  pub left : List ℕ
  pub are_bytes : IsBytes left
  pub could_be : MayLeave start left
  pub same : (answer : Result (List Note) LogFault) → Opens i left answer ↔ Opens i file answer

-- Opening a file of bytes has exactly one answer.
pub record HasOneAnswer (i : Identity) : Type 0 where
  pub some_answer : (file : List ℕ) → IsBytes file
      → (answer : Result (List Note) LogFault) × Opens i file answer
  pub no_second : (file : List ℕ) (a b : Result (List Note) LogFault) → Opens i file a
      → Opens i file b → a ≡ b
