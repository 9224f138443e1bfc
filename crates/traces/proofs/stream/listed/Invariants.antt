use Rattle.std.proofs.Common.{◌≡◌, ℕ, ◌≤◌, length}
use Rattle.json.specs.Json.{items, parse_map, value}
use Rattle.serde_json.specs.Read.{converted, of_items}
use Rattle.traces.specs.Trace.{events_from}
use Rattle.traces.specs.inside.Kept.{items_read}
use Rattle.traces.specs.inside.Listing.{answer_behind}
use Rattle.traces.proofs.stream.listed.Given as goal

abbrev pub invariant-items : goal.invariant-items
invariant-items l =
    (n : ℕ) × (length l.reader ≤ n)
    × (parse_map (events_from 0) (items_read l.depth l.initial.reader) ≡ parse_map (answer_behind l.listed) (converted of_items (items (value l.depth) n l.reader)))
    × (length l.reader ≤ length l.initial.reader)

abbrev pub decreases-items : goal.decreases-items
decreases-items l = length l.reader
