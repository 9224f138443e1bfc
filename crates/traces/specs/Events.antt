-- The event that a JSON value encodes. The value has the members of its kind, with `event`, and no
-- others.
use Rattle.std.specs.Prelude.{◌==◌, ◌&&◌, ℕ, not, List, [], ◌∷◌, Option, None, Some, is_some, option_map, if◌then◌else◌, codes}
use Rattle.std.specs.Str.{bytes_eq}
use Rattle.faults.specs.Bytes.{Text}
use Rattle.package_record.specs.Content.{NamedFile}
use Rattle.protocol.specs.Given.{Given}
use Rattle.protocol.specs.Events.{Event, Claim, Built, Failed, Nudge, Ask, Deliver, Stop, StopIn, Restart}
use Rattle.protocol.specs.declared.event.Left.{Left}
use Rattle.protocol.specs.declared.event.Left.TheVariants as left
use Rattle.serde_json.specs.Data.{Data}
use Rattle.serde_json.specs.Find.{get}
use Rattle.traces.specs.Fields.{◌>>=◌, count_in, files_in, hex_at, node_at, number_at, packages_in, path_at, text_at}

-- the greatest number of 64 bits
abbrev pub most : ℕ
most = 18446744073709551615

-- a node opens a claim
unfoldable pub claim_in : Data → Option Event
claim_in d = do
  node ← node_at d
  path ← path_at d
  host ← number_at (codes "host") 65535 d
  above ← number_at (codes "above") most d
  if count_in d == 5 then Some (Claim node path host above) else None

-- the files of the package, if there is exactly one and it has this path
abbrev pub own_files : Text → Given → Option (List NamedFile)
own_files path [] = None
own_files path ((p, files) ∷ []) = if bytes_eq p path then Some files else None
own_files path (p ∷ q ∷ rest) = None

-- the only package that was built has the event's own path: its files are given
unfoldable pub built_alone_in : Data → Option Event
built_alone_in d = do
  node ← node_at d
  path ← path_at d
  files ← get (codes "files") d >>= files_in
  if count_in d == 4 then Some (Built node path ((path, files) ∷ [])) else None

-- other packages were built: all are given
unfoldable pub built_several_in : Data → Option Event
built_several_in d = do
  node ← node_at d
  path ← path_at d
  packages ← get (codes "packages") d >>= packages_in
  if (count_in d == 4) && not (is_some (own_files path packages))
      then Some (Built node path packages) else None

-- a unit was built
abbrev pub built_in : Data → Option Event
built_in d = if is_some (get (codes "files") d) then built_alone_in d else built_several_in d

-- a node and a path, with no other member than the kind
unfoldable pub node_and_path_in : Data → Option (ℕ × Text)
node_and_path_in d = do
  node ← node_at d
  path ← path_at d
  if count_in d == 3 then Some (node, path) else None

-- an event with only a node and a path
abbrev pub of_path_in : (ℕ → Text → Event) → Data → Option Event
of_path_in kind d = option_map (λ p. kind p.0 p.1) (node_and_path_in d)

-- a node, with no other member than the kind
unfoldable pub node_alone_in : Data → Option ℕ
node_alone_in d = do
  node ← node_at d
  if count_in d == 2 then Some node else None

-- an event with only a node
abbrev pub of_node_in : (ℕ → Event) → Data → Option Event
of_node_in kind d = option_map kind (node_alone_in d)

-- a datagram is delivered to a node
unfoldable pub deliver_in : Data → Option Event
deliver_in d = do
  datagram ← number_at (codes "datagram") most d
  node ← node_at d
  if count_in d == 3 then Some (Deliver datagram node) else None

-- an event of this kind, if a stop may interrupt it
abbrev pub step_of : Text → Data → Option Event
step_of kind d =
    if bytes_eq kind (codes "claim") then claim_in d
    else if bytes_eq kind (codes "built") then built_in d
    else if bytes_eq kind (codes "failed") then of_path_in Failed d
    else if bytes_eq kind (codes "nudge") then of_node_in Nudge d
    else if bytes_eq kind (codes "ask") then of_path_in Ask d
    else if bytes_eq kind (codes "deliver") then deliver_in d
    else None

-- one of the six events that a stop may interrupt
abbrev pub step_in : Data → Option Event
step_in d = text_at (codes "event") d >>= (λ kind. step_of kind d)

-- what is left of the note, if it isn't torn
abbrev pub left_of : Text → Option Left
left_of word =
    if bytes_eq word (codes "none") then Some left.None
    else if bytes_eq word (codes "whole") then Some left.Whole
    else None

-- a stop inside the step that the value encodes, which leaves this
abbrev pub stop_inside : Left → Data → Option Event
stop_inside left d = step_in d >>= (λ input. Some (StopIn input left))

-- a stop inside a step that leaves nothing or the whole note
unfoldable pub clean_stop_in : Data → Option Event
clean_stop_in d = do
  input ← get (codes "input") d >>= step_in
  left ← text_at (codes "left") d >>= left_of
  if count_in d == 3 then Some (StopIn input left) else None

-- a stop inside a step that leaves these bytes
unfoldable pub torn_stop_in : Data → Option Event
torn_stop_in d = do
  bytes ← hex_at d
  input ← get (codes "input") d >>= step_in
  word ← text_at (codes "left") d
  if bytes_eq word (codes "torn") && (count_in d == 4)
      then Some (StopIn input (left.Torn bytes)) else None

-- a stop inside a step
abbrev pub stop_in : Data → Option Event
stop_in d = if is_some (get (codes "hex") d) then torn_stop_in d else clean_stop_in d

-- an event of this kind
abbrev pub event_of : Text → Data → Option Event
event_of kind d =
    if bytes_eq kind (codes "stop") then of_node_in Stop d
    else if bytes_eq kind (codes "restart") then of_node_in Restart d
    else if bytes_eq kind (codes "stopin") then stop_in d
    else step_of kind d

-- the event that the value encodes
abbrev pub event_in : Data → Option Event
event_in d = text_at (codes "event") d >>= (λ kind. event_of kind d)
