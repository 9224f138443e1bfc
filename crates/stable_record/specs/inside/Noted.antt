-- How calls are recorded.
use Rattle.std.specs.Prelude.{ℕ, ◌==◌, if◌then◌else◌, List, drop, slice_index}
use Rattle.stable_record.specs.Events.{Event, Past, holds, writes, cuts, syncs, reads, measures, fails_to_write, fails_to_cut, replay}
use Rattle.stable_record.specs.History.{IsBytes, seen}

-- At every point so far a read returned a list of bytes.
abbrev pub WereBytes : Past → List Event → Type 0
WereBytes past events = (later : ℕ) → IsBytes (seen (replay past (drop later events)))

-- the event recorded by these numbers and bytes
abbrev pub event_of : List ℕ → List ℕ → Event
event_of numbers bytes =
    let kind = slice_index numbers 0 in
    if kind == 0 then holds bytes else
    if kind == 1 then writes (slice_index numbers 1) bytes else
    if kind == 2 then cuts (slice_index numbers 1) else
    if kind == 3 then syncs else
    if kind == 4 then reads (slice_index numbers 1) (slice_index numbers 2) bytes else
    if kind == 5 then measures (slice_index numbers 1) else
    if kind == 6 then fails_to_write (slice_index numbers 1) (slice_index numbers 2) else
    fails_to_cut (slice_index numbers 1)
