-- A world as the agreement theory sees it: one agreement for each unit, with builds as its values.
use Rattle.engine.specs.Division.{unit_at}
use Rattle.std.specs.Prelude.{◌≡◌, ◌<◌, ℕ, List, [], ◌∷◌, ◌++◌, All, Contains, Some, filter, length, map, option_map, reverse, slice_get}
use Rattle.std.specs.Str.{bytes_eq}
use Rattle.faults.specs.Bytes.{Text}
use Rattle.claims.specs.declared.claim.Claim.{Claim}
use Rattle.claims.specs.AgreedList.{Cluster, Entry}
use Rattle.claims.specs.Messages as theory
use Rattle.claims.specs.Votes.{Has, ballot}
use Rattle.package_record.specs.Content.{Content}
use Rattle.ballots.specs.InTheAgreement.{note_of, said}
use Rattle.ballots.specs.declared.message.Body.TheVariants.{Propose, Vote}
use Rattle.ballots.specs.declared.message.Message.{Message}
use Rattle.claims.specs.Member as theory_of_one
use Rattle.claims.specs.Nodes as nodes
use Rattle.protocol.specs.InTheAgreement.{claim_of}
use Rattle.protocol.specs.State.{Value, facts_at}
use Rattle.protocol.specs.Answers.{tree_digest}
use Rattle.protocol.specs.Step.{members_of}
use Rattle.node.specs.Parcels.{datagrams_of}
use Rattle.world.specs.Sent.{WasSent, message}
use Rattle.world.specs.World.{World, WorldNode, member_at}

-- the name of unit u
abbrev pub name_of : World → ℕ → Text
name_of w u = (unit_at w.division u).name

-- node k as a node of the agreement theory
abbrev pub node_of : World → ℕ → WorldNode → nodes.Node Value
node_of w k x =
    record { facts = facts_at (member_at w k x); up = x.up; claim = option_map claim_of x.claim }

-- what node k noted about unit u, the latest note first
abbrev pub log_of : World → ℕ → WorldNode → List (theory_of_one.Note Value)
log_of w u x =
    map (λ n. note_of n.fact) (reverse (filter (λ n. bytes_eq n.path (name_of w u)) x.notes))

-- The datagram belongs to a message that a member of the world said about a unit, and all of whose
-- pieces were sent. The claims in it are of members of the world.
pub record IsSaid (w : World) (c : Cluster Value) (text : Text) : Type 0 where
  pub message : Message Value
  pub unit : ℕ
  pub went_out : WasSent w.sent message
  pub datagram : Contains (datagrams_of message) text
  pub listed : unit < length w.division.units
  pub about : message.path ≡ name_of w unit
  pub tree : message.tree ≡ tree_digest w.division.tree
  pub sender : message.sender < length w.weights
  pub claimers : All (λ k. k < length w.weights) (members_of message.body)
  pub said_there : Has (c.at unit).sent (said message.sender message.body)

-- the packages of the entries, as a list that grows at its end; the entries come latest first
abbrev pub packages_of : List (Entry Value) → List Content
packages_of [] = []
packages_of (e ∷ es) = packages_of es ++ e.value

-- For each unit, each node is the theory's member there.
abbrev pub AreMembers : World → Cluster Value → Type 0
AreMembers w c =
    (k u : ℕ) (x : WorldNode) → slice_get w.nodes k ≡ Some x → u < length w.division.units
    → (c.at u).members k ≡ nodes.view (node_of w k x) u

-- For each unit, each node noted what the theory's member noted.
abbrev pub NotedTheSame : World → Cluster Value → Type 0
NotedTheSame w c =
    (k u : ℕ) (x : WorldNode) → slice_get w.nodes k ≡ Some x → u < length w.division.units
    → (c.at u).logs k ≡ log_of w u x

-- Votes that were said in the theory were sent.
abbrev pub VotesWereSent : World → Cluster Value → Type 0
VotesWereSent w c =
    (u m : ℕ) (b : Claim) → u < length w.division.units → Has (c.at u).sent (theory.Vote m b)
    → WasSent w.sent (message w (name_of w u) m (Vote b))

-- Proposals that were said in the theory were sent.
abbrev pub ProposalsWereSent : World → Cluster Value → Type 0
ProposalsWereSent w c =
    (u : ℕ) (b : Claim) (v : Value) → u < length w.division.units
    → Has (c.at u).sent (theory.Propose (ballot b v))
    → WasSent w.sent (message w (name_of w u) b.member (Propose b v))

-- The world matches the agreements, unit by unit: what was sent was said, and the lists are equal.
pub record Matches (w : World) (c : Cluster Value) : Type 0 where
  pub members : AreMembers w c
  pub logs : NotedTheSame w c
  pub sent : (text : Text) → Contains w.sent text → IsSaid w c text
  pub votes : VotesWereSent w c
  pub proposals : ProposalsWereSent w c
  pub list : w.agreed ≡ packages_of c.list
  pub units : All (λ e. e.path < length w.division.units) c.list

-- The message was said about a unit by a member of the world, and the claims in it are of members.
pub record WasSaid (w : World) (c : Cluster Value) (m : Message Value) : Type 0 where
  pub unit : ℕ
  pub listed : unit < length w.division.units
  pub about : m.path ≡ name_of w unit
  pub tree : m.tree ≡ tree_digest w.division.tree
  pub sender : m.sender < length w.weights
  pub claimers : All (λ k. k < length w.weights) (members_of m.body)
  pub said_there : Has (c.at unit).sent (said m.sender m.body)
