-- A real file and its history.
use Rattle.std.specs.Prelude.{◌≡◌, ◌^◌, ℕ, List, true}
use Rattle.stable_record.specs.declared.file_disk.FileDisk.{FileDisk}
use Rattle.stable_record.specs.Events.{Past, agrees, half_cut, half_written, replay}
use Rattle.stable_record.specs.History.{History, seen}
use Rattle.stable_record.specs.Room.{Room}

-- the past with which it was opened
abbrev pub file_past : FileDisk → Past
file_past disk = disk.noted.past

-- the history of the file: its past, then the recorded calls
abbrev pub file_history : FileDisk → History
file_history disk = replay disk.noted.past disk.noted.events

-- Each read and each length so far returned what the history says.
abbrev pub file_agrees : FileDisk → Type 0
file_agrees disk = agrees disk.noted.past disk.noted.events ≡ true

-- what the next write, of `count` bytes at a place, leaves if it fails
abbrev pub after_failed_write : FileDisk → ℕ → ℕ → List ℕ
after_failed_write disk at count =
    half_written disk.noted.past disk.noted.events at count (seen (file_history disk))

-- what the next cut leaves if it fails
abbrev pub after_failed_cut : FileDisk → ℕ → List ℕ
after_failed_cut disk len =
    half_cut disk.noted.past disk.noted.events len (seen (file_history disk))

-- no call runs out of memory
abbrev pub file_room : Room
file_room = record { bytes = 2 ^ 64; calls = 2 ^ 32 }
