-- The members as nodes: each keeps facts for all paths, and at most one open claim over all paths.
-- Datagrams name their path.
use Rattle.claims.specs.Quorums.{Quorums, is_majority}
use Rattle.claims.specs.Messages.{Message}
use Rattle.claims.specs.Member.{Facts, Member, Stage, Closed, Gathering, Building, Voting}
use Rattle.claims.specs.Member.{facts_of, no_facts}
use Rattle.claims.specs.Step.{Outcome, Input, Start, Built, Failed, Nudge, Deliver, Inquire}
use Rattle.claims.specs.Step.{answer, on_message}
use Rattle.claims.specs.World.{put}
use Rattle.claims.specs.Agreed.{decided_value}
use Rattle.claims.specs.AgreedList.{Needs, Entry, Cluster, lookup, list_with}
use Rattle.std.specs.Prelude.{◌≡◌, ℕ, Bool, true, false, ◌==◌, List, [], ◌∷◌, Option, Some, None}
use Rattle.std.specs.Prelude.{if◌then◌else◌, length, slice_get, slice_set, replicate, option_map}

-- an open claim, and its path
pub record OpenClaim (V : Type 0) : Type 0 where
  pub path : ℕ
  pub stage : Stage V

-- a member with its facts for each path, whether it is up, and its one open claim, if any
pub record Node (V : Type 0) : Type 0 where
  pub facts : ℕ → Facts V
  pub up : Bool
  pub claim : Option (OpenClaim V)

-- a message, and the path that it is about
pub record Datagram (V : Type 0) : Type 0 where
  pub path : ℕ
  pub message : Message V

-- all nodes, what they sent, and the list of agreed values
pub record Net (V : Type 0) : Type 0 where
  pub nodes : List (Node V)
  -- all that was ever sent, latest datagram first
  pub sent : List (Datagram V)
  -- the agreed list, latest entry first
  pub list : List (Entry V)

-- what a node is asked: an input for a path, or to receive a datagram, identified by the number of
-- datagrams sent after it
pub data Asked (V : Type 0) : Type 0 where
  Local : ℕ → Input V → Asked V
  Comes : ℕ → Asked V

-- what may happen to a node
pub data Happening (V : Type 0) : Type 0 where
  Does : ℕ → Asked V → Happening V
  Halts : ℕ → Happening V
  -- A node stops inside a step: its facts stay, and nothing is sent.
  HaltsIn : ℕ → Asked V → Happening V
  Wakes : ℕ → Happening V

-- the stage of the open claim for p: closed if the claim is for another path
abbrev pub stage_at : {V : Type 0} → Option (OpenClaim V) → ℕ → Stage V
stage_at None p = Closed
stage_at (Some c) p = if p == c.path then c.stage else Closed

-- the node as a member for one path
abbrev pub view : {V : Type 0} → Node V → ℕ → Member V
view x p = record {
  opened = (x.facts p).opened;
  promised = (x.facts p).promised;
  voted = (x.facts p).voted;
  held = (x.facts p).held;
  up = x.up;
  stage = stage_at x.claim p;
}

-- the open claim after a step for p that leaves this stage
abbrev pub claim_then : {V : Type 0} → Option (OpenClaim V) → ℕ → Stage V → Option (OpenClaim V)
claim_then None p Closed = None
claim_then (Some c) p Closed = if p == c.path then None else Some c
claim_then old p (Gathering c S k) = Some (record { path = p; stage = Gathering c S k })
claim_then old p (Building c) = Some (record { path = p; stage = Building c })
claim_then old p (Voting b S) = Some (record { path = p; stage = Voting b S })

-- the node after a step that leaves it as member m for p
abbrev pub node_with : {V : Type 0} → Node V → ℕ → Member V → Node V
node_with x p m = record {
  facts = put x.facts p (facts_of m);
  up = m.up;
  claim = claim_then x.claim p m.stage;
}

-- the node after it stopped inside a step that left it as m for p
abbrev pub halted_with : {V : Type 0} → Node V → ℕ → Member V → Node V
halted_with x p m = record { facts = put x.facts p (facts_of m); up = false; claim = None }

-- the outcome of a step, and the path that it is for
pub record Reply (V : Type 0) : Type 0 where
  pub path : ℕ
  pub outcome : Outcome V

-- Whether the node may do this: a value is built only on what the node holds, and messages arrive
-- only as datagrams.
abbrev pub may_do : {V : Type 0} → Needs V → Node V → ℕ → Input V → Bool
may_do may x p (Built v) = may (λ q. (x.facts q).held) p v
may_do may x p (Start above) = true
may_do may x p Failed = true
may_do may x p Nudge = true
may_do may x p (Deliver k) = false
may_do may x p Inquire = true

-- what node i does when asked, or None if it refuses
abbrev pub reply : {V : Type 0} → Quorums → Needs V → List (Datagram V) → ℕ → Node V → Asked V
    → Option (Reply V)
reply enough may sent i x (Local p input) =
    if may_do may x p input
    then option_map (λ o. record { path = p; outcome = o }) (answer enough i (view x p) [] input)
    else None
reply enough may sent i x (Comes k) =
    option_map
    (λ d. record { path = d.path; outcome = on_message enough i (view x d.path) d.message })
    (slice_get sent k)

-- the messages about p
abbrev pub for_path : {V : Type 0} → ℕ → List (Datagram V) → List (Message V)
for_path p [] = []
for_path p (d ∷ ds) = if p == d.path then d.message ∷ for_path p ds else for_path p ds

-- the datagrams with one more about p, if there is a message
abbrev pub add_datagram : {V : Type 0} → ℕ → Option (Message V) → List (Datagram V)
    → List (Datagram V)
add_datagram p None ds = ds
add_datagram p (Some m) ds = record { path = p; message = m } ∷ ds

-- the net after node i's reply, if there is one
abbrev pub net_after : {V : Type 0} → Quorums → Net V → ℕ → Node V → Option (Reply V) → Net V
net_after enough w i x None = w
net_after enough w i x (Some r) =
    let sent = add_datagram r.path r.outcome.send w.sent in
    let messages = for_path r.path sent in
    let decided = decided_value enough messages messages in
    record {
      nodes = slice_set w.nodes i (node_with x r.path r.outcome.member);
      sent = sent;
      list = list_with r.path w.list (lookup w.list r.path) decided;
    }

-- the net after a stop cut node i's reply short
abbrev pub net_cut : {V : Type 0} → Net V → ℕ → Node V → Option (Reply V) → Net V
net_cut w i x None = w
net_cut w i x (Some r) =
    record w { nodes = slice_set w.nodes i (halted_with x r.path r.outcome.member) }

-- the net after node i was asked, if there is such a node and it is up
abbrev pub net_does : {V : Type 0} → Quorums → Needs V → Net V → ℕ → Asked V → Option (Node V)
    → Net V
net_does enough may w i a None = w
net_does enough may w i a (Some x) =
    if x.up then net_after enough w i x (reply enough may w.sent i x a) else w

-- the net after node i stopped inside the step that it was asked to take
abbrev pub net_halts_in : {V : Type 0} → Quorums → Needs V → Net V → ℕ → Asked V → Option (Node V)
    → Net V
net_halts_in enough may w i a None = w
net_halts_in enough may w i a (Some x) =
    if x.up then net_cut w i x (reply enough may w.sent i x a) else w

-- the node with its facts, up or down, and no claim
abbrev pub left_with : {V : Type 0} → Node V → Bool → Node V
left_with x up = record { facts = x.facts; up = up; claim = None }

-- the net after node i stopped
abbrev pub net_halts : {V : Type 0} → Net V → ℕ → Option (Node V) → Net V
net_halts w i None = w
net_halts w i (Some x) =
    if x.up then record w { nodes = slice_set w.nodes i (left_with x false) } else w

-- the net after node i restarted
abbrev pub net_wakes : {V : Type 0} → Net V → ℕ → Option (Node V) → Net V
net_wakes w i None = w
net_wakes w i (Some x) =
    if x.up then w else record w { nodes = slice_set w.nodes i (left_with x true) }

-- the net after a happening, which changes nothing if there is no such node or the node refuses
abbrev pub net_then : {V : Type 0} → Quorums → Needs V → Net V → Happening V → Net V
net_then enough may w (Does i a) = net_does enough may w i a (slice_get w.nodes i)
net_then enough may w (Halts i) = net_halts w i (slice_get w.nodes i)
net_then enough may w (HaltsIn i a) = net_halts_in enough may w i a (slice_get w.nodes i)
net_then enough may w (Wakes i) = net_wakes w i (slice_get w.nodes i)

-- the net after the happenings, one after another
abbrev pub net_run : {V : Type 0} → Quorums → Needs V → List (Happening V) → Net V → Net V
net_run enough may [] w = w
net_run enough may (e ∷ es) w = net_run enough may es (net_then enough may w e)

-- a fresh node
abbrev pub fresh_node : {V : Type 0} → Node V
fresh_node = record { facts = λ p. no_facts; up = true; claim = None }

-- the initial net of n nodes
abbrev pub net_start : {V : Type 0} → ℕ → Net V
net_start n = record { nodes = replicate n fresh_node; sent = []; list = [] }

-- the net after the happenings, with one node for each weight
abbrev pub after_all : {V : Type 0} → List ℕ → Needs V → List (Happening V) → Net V
after_all weights may happenings =
    net_run (is_majority weights) may happenings (net_start (length weights))

-- The net corresponds to the cluster: for each path, each node is the member there and the same
-- messages were sent; and the lists are equal.
pub record Matches (V : Type 0) (w : Net V) (c : Cluster V) : Type 0 where
  pub members : (p i : ℕ) (x : Node V) → slice_get w.nodes i ≡ Some x
      → (c.at p).members i ≡ view x p
  pub sent : (p : ℕ) → (c.at p).sent ≡ for_path p w.sent
  pub list : c.list ≡ w.list
