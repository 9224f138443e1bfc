-- A disk in memory and its history.
use Rattle.std.specs.Prelude.{◌-◌, min, length, vec_capacity}
use Rattle.stable_record.specs.declared.mem_disk.MemDisk.{MemDisk}
use Rattle.stable_record.specs.Events.{replay}
use Rattle.stable_record.specs.History.{History}
use Rattle.stable_record.specs.Pasts.{no_past}
use Rattle.stable_record.specs.Room.{Room}

-- the calls that touched its file
abbrev pub mem_history : MemDisk → History
mem_history disk = replay no_past disk.noted.events

-- how much can be written to it without running out of memory
abbrev pub mem_room : MemDisk → Room
mem_room disk = record {
  bytes = min (vec_capacity disk.file) (vec_capacity disk.before) - length disk.file.items;
  calls = vec_capacity disk.ranges - length disk.ranges.items;
}
