-- The text of a trace.
use Rattle.std.specs.Prelude.{ℕ, List, [], ◌∷◌, Option, None, Some, length, map, if◌then◌else◌, codes}
use Rattle.std.specs.Str.Lossy.{utf8_lossy}
use Rattle.faults.specs.Bytes.{Text}
use Rattle.hex.specs.Hex.{encode_lower}
use Rattle.package_record.specs.Content.{NamedFile}
use Rattle.protocol.specs.Given.{Given}
use Rattle.protocol.specs.Events.{Event, Claim, Built, Failed, Nudge, Ask, Deliver, Stop, StopIn, Restart}
use Rattle.protocol.specs.declared.event.Left.{Left}
use Rattle.protocol.specs.declared.event.Left.TheVariants as left
use Rattle.serde_json.specs.Data.{Data, Members, array, object, number, string, unsigned, no_members, member}
use Rattle.serde_json.specs.View.{items_of}
use Rattle.serde_json.specs.Written.{compact_text}
use Rattle.stable_record.specs.Magic.{are_ones}
use Rattle.traces.specs.Events.{own_files}
use Rattle.traces.specs.Trace.{Trace}

-- ---- values

-- a number
abbrev pub natural : ℕ → Data
natural n = number (unsigned n)

-- bytes as a text; those that are not UTF-8 are replaced by the replacement character
abbrev pub text : Text → Data
text bytes = string (utf8_lossy bytes)

-- a word
abbrev pub word : Text → Data
word w = string w

-- bytes, as lower-case hexadecimal digits
abbrev pub hex : List ℕ → Data
hex bytes = string (encode_lower bytes)

-- these members; their keys are in order
abbrev pub members : List (Text × Data) → Members
members [] = no_members
members (p ∷ ps) = member p.0 p.1 (members ps)

-- an object of these members
abbrev pub fields : List (Text × Data) → Data
fields pairs = object (members pairs)

-- an array of these
abbrev pub list_data : List Data → Data
list_data ds = array (items_of ds)

-- ---- files and packages

-- a file
abbrev pub file_data : NamedFile → Data
file_data f = fields ((codes "hex", hex f.bytes) ∷ (codes "name", text f.name) ∷ [])

-- files
abbrev pub files_data : List NamedFile → Data
files_data files = list_data (map file_data files)

-- a package
abbrev pub package_data : Text × List NamedFile → Data
package_data p = fields ((codes "files", files_data p.1) ∷ (codes "path", text p.0) ∷ [])

-- packages
abbrev pub packages_data : Given → Data
packages_data packages = list_data (map package_data packages)

-- ---- events

-- the members of an event of this kind with a node
abbrev pub node_members : Text → ℕ → Members
node_members kind n = members ((codes "event", word kind) ∷ (codes "node", natural n) ∷ [])

-- the event of this kind with a node
abbrev pub node_data : Text → ℕ → Data
node_data kind n = object (node_members kind n)

-- the members of an event of this kind with a node and a path
abbrev pub path_members : Text → ℕ → Text → Members
path_members kind n path =
    members ((codes "event", word kind) ∷ (codes "node", natural n)
    ∷ (codes "path", text path) ∷ [])

-- the event of this kind with a node and a path
abbrev pub path_data : Text → ℕ → Text → Data
path_data kind n path = object (path_members kind n path)

-- a claim
abbrev pub claim_data : ℕ → Text → ℕ → ℕ → Data
claim_data n path host above =
    fields ((codes "above", natural above) ∷ (codes "event", word (codes "claim"))
    ∷ (codes "host", natural host) ∷ (codes "node", natural n) ∷ (codes "path", text path) ∷ [])

-- a unit was built: either the files of the event's own path, or all packages
abbrev pub built_with : ℕ → Text → Given → Option (List NamedFile) → Data
built_with n path packages (Some files) =
    fields ((codes "event", word (codes "built")) ∷ (codes "files", files_data files)
    ∷ (codes "node", natural n) ∷ (codes "path", text path) ∷ [])
built_with n path packages None =
    fields ((codes "event", word (codes "built")) ∷ (codes "node", natural n)
    ∷ (codes "packages", packages_data packages) ∷ (codes "path", text path) ∷ [])

-- a unit was built; a single package with the event's path is written as its files
abbrev pub built_data : ℕ → Text → Given → Data
built_data n path packages = built_with n path packages (own_files path packages)

-- a datagram is delivered to a node
abbrev pub deliver_data : ℕ → ℕ → Data
deliver_data d n =
    fields ((codes "datagram", natural d) ∷ (codes "event", word (codes "deliver"))
    ∷ (codes "node", natural n) ∷ [])

-- the members of a stop inside this step, without bytes
abbrev pub stop_members : Text → Data → Members
stop_members left input =
    members ((codes "event", word (codes "stopin")) ∷ (codes "input", input)
    ∷ (codes "left", word left) ∷ [])

-- a stop inside this step that leaves nothing or the whole note
abbrev pub clean_data : Text → Data → Data
clean_data left input = object (stop_members left input)

-- a stop inside this step that leaves these bytes
abbrev pub torn_data : List ℕ → Data → Data
torn_data bytes input =
    fields ((codes "event", word (codes "stopin")) ∷ (codes "hex", hex bytes)
    ∷ (codes "input", input)
    ∷ (codes "left", word (codes "torn")) ∷ [])

-- a stop inside this step
abbrev pub stop_data : Data → Left → Data
stop_data input left.None = clean_data (codes "none") input
stop_data input left.Whole = clean_data (codes "whole") input
stop_data input (left.Torn bytes) = torn_data bytes input

-- the event as a value
abbrev pub event_data : Event → Data
event_data (Claim n path host above) = claim_data n path host above
event_data (Built n path packages) = built_data n path packages
event_data (Failed n path) = path_data (codes "failed") n path
event_data (Nudge n) = node_data (codes "nudge") n
event_data (Ask n path) = path_data (codes "ask") n path
event_data (Deliver d n) = deliver_data d n
event_data (Stop n) = node_data (codes "stop") n
event_data (StopIn e left) = stop_data (event_data e) left
event_data (Restart n) = node_data (codes "restart") n

-- ---- the trace

-- the members of a trace without weights
abbrev pub plain_members : Trace → Members
plain_members t =
    members ((codes "events", list_data (map event_data t.events))
    ∷ (codes "members", natural (length t.weights)) ∷ [])

-- the members of a trace with weights
abbrev pub all_members : Trace → Members
all_members t =
    members ((codes "events", list_data (map event_data t.events))
    ∷ (codes "members", natural (length t.weights))
    ∷ (codes "weights", list_data (map natural t.weights)) ∷ [])

-- the trace as a value; weights that are all 1 are not written
abbrev pub trace_data : Trace → Data
trace_data t = if are_ones t.weights then object (plain_members t) else object (all_members t)

-- the text of a trace, without spaces
abbrev pub trace_text : Trace → Text
trace_text t = compact_text (trace_data t)
