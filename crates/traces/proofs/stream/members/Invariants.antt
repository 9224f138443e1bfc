use Rattle.std.proofs.Common.{◌≡◌, ℕ, ◌≤◌, length}
use Rattle.json.specs.Json.{members, value}
use Rattle.serde_json.specs.Data.{Members}
use Rattle.serde_json.specs.Read.{converted, of_members}
use Rattle.serde_json.specs.View.{members_view}
use Rattle.traces.specs.inside.Kept.{Lists, items_of, kept, members_read}
use Rattle.traces.proofs.stream.members.Given as goal

abbrev pub invariant-members : goal.invariant-members
invariant-members l =
    (n : ℕ) × (length l.reader ≤ n)
    × ((all : Members) × (members_read 126 l.initial.reader ≡ converted (λ ms. of_members ms all) (members (value 126) n l.reader))
    × (members_view l.members.entries ≡ kept all) × Lists (items_of all) l.listed)
    × (length l.reader ≤ length l.initial.reader)

abbrev pub decreases-members : goal.decreases-members
decreases-members l = length l.reader
