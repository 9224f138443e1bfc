-- What a start sees of the folder of a member's log, and of the log's file.
use Rattle.std.specs.Prelude.{◌≡◌, ◌≢◌, ℕ, [], bit_and}
use Rattle.std.proofs.Common.{lit<}
use Rattle.stable_record.specs.Events.{Past}
use Rattle.stable_record.specs.History.{History}
use Rattle.stable_record.specs.Pasts.{just_found}
use Rattle.stable_record.specs.RealFile.{file_agrees, file_history}
use Rattle.stable_record.specs.declared.file_disk.FileDisk.{FileDisk}

-- Others than the folder's owner may write in it: the group's bit for writing is set in its mode,
-- or that of others.
abbrev pub IsShared : ℕ → Type 0
IsShared mode = bit_and mode 18 ≢ 0

-- The folder was found with a mode that lets only its owner write in it.
pub record IsOwn (had_mode : ℕ → Type 0) : Type 0 where
  pub mode : ℕ
  pub had : had_mode mode
  pub is_own : ¬ (IsShared mode)

-- The folder was found with a mode that lets others write in it.
pub record IsOpenToOthers (had_mode : ℕ → Type 0) : Type 0 where
  pub mode : ℕ
  pub had : had_mode mode
  pub shared : IsShared mode

-- The disk is one over a file that was just opened, about which this is supposed.
pub record IsJustOpened (known : History) (disk : FileDisk) : Type 0 where
  pub agrees : file_agrees disk
  pub history : file_history disk ≡ known

-- Since the file was opened, it was only read and measured: if it does what its history says, that
-- history is still what was supposed when it was opened.
abbrev pub IsLookedAt : History → FileDisk → Type 0
IsLookedAt known disk = file_agrees disk → file_history disk ≡ known

-- the past of a file that was found empty; nothing is known about what a crash leaves of it
abbrev pub empty_past : Past
empty_past = just_found record { list = []; are_bytes = λ k. lit< tt }
