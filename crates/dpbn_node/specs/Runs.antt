-- The run that a node belongs to, how it starts there, and what is reported if it can't.
use Rattle.std.specs.Prelude.{◌≡◌, ◌≢◌, ◌≤◌, ◌⊎◌, ◌++◌, ⊤, ℕ, Bool, true, false, List, [], Option, None, Some, Ok, if◌then◌else◌, length, option_map, string_bytes}
use Rattle.std.specs.declared.net.socket_addr.SocketAddr.{SocketAddr}
use Rattle.std.specs.declared.rt.LibcRuntime.{LibcRuntime}
use Rattle.lone_node.specs.Pending.{nothing_kept}
use Rattle.dpbn_node.specs.Given.{AreTold}
use Rattle.dpbn_node.specs.declared.starting.Begun.{Begun}
use Rattle.dpbn_node.specs.declared.starting.Place.{Place}
use Rattle.dpbn_node.specs.Keys.{IsKeyOf, RefusesKeyFile, seal_of, shown_of}
use Rattle.dpbn_node.specs.Starts.{IsStartRefusal, owner}
use Rattle.dpbn_cli.specs.declared.Peers.{Peers}
use Rattle.dpbn_cli.specs.declared.Peers.TheVariants.{Base, Hosts}
use Rattle.dpbn_cli.specs.declared.Run.{Run}
use Rattle.engine.specs.State.{State}
use Rattle.faults.specs.Bytes.{Text, comma}
use Rattle.faults.specs.Pieces.{pieces_at}
use Rattle.listing.specs.Tree.{Tree}
use Rattle.node.specs.Calls.{IsOpened}
use Rattle.node.specs.OnLog.{IsOnLog, identity, identity_of, texts_of}
use Rattle.node.specs.Refusals.{number_of}
use Rattle.node.specs.State.{LoggedNode, NodeState}
use Rattle.node.specs.declared.fault.NodeFault.{NodeFault}
use Rattle.program_io.specs.Listings.{IsDescribed}
use Rattle.program_io.specs.Refusals.{IsSystemRefusal, memory_refusal}
use Rattle.program_io.specs.declared.refusal.Refusal.{Refusal}
use Rattle.protocol.specs.Answers.{tree_digest}
use Rattle.protocol.specs.State.{engine_of}
use Rattle.run_file.specs.Starts.{IsStarted}
pub use Rattle.lone_node.specs.Handed.{SoFar}
pub use Rattle.lone_node.specs.State.{SoloState}
pub use Rattle.lone_node.specs.Turns.{IsTurn, Outcome}
use Rattle.stable_record.specs.Crash.{AllAlong}
use Rattle.stable_record.specs.History.{History, seen}
use Rattle.stable_record.specs.Opening.{HasOneAnswer, Opens, OpensAsLeft}
use Rattle.stable_record.specs.RealFile.{file_agrees, file_history, file_room}
use Rattle.stable_record.specs.declared.disk.Disk.{Ghosts as Disk}
use Rattle.datagram_ports.specs.Granted.{IsGranted}
use Rattle.datagram_ports.specs.declared.port.Port.{Ghosts as Port}
use Rattle.stable_record.specs.declared.file_disk.FileDisk.{FileDisk}
use Rattle.udp.specs.Calls.{DoesOverUdp, IsEmpty, setup_of}
use Rattle.udp.specs.Hosts.{IsFirstBad, WriteHosts}
use Rattle.udp.specs.Inbox.{is_vouched_for}
use Rattle.udp.specs.Leaving.{texts_of as texts_that_wait}
use Rattle.udp.specs.Ways.{AreLocal, IsSeatOf}
use Rattle.udp.specs.declared.notice.Listing.{Listing}
use Rattle.udp.specs.declared.udp_port.UdpPort.{UdpPort}

-- ---- nodes

-- the letters that the node shows, if it is up
abbrev pub letters_of : NodeState → Option State
letters_of n = if n.stopped then None else Some (engine_of n.member)

-- a node whose log is a file and whose peers run elsewhere, with its state between turns and its
-- port
abbrev pub Running : Type 0
Running = SoloState FileDisk (UdpPort LibcRuntime)

-- the port vouches for this text: the bytes that encode it are among those received
abbrev pub port_vouches : UdpPort LibcRuntime → Text → Type 0
port_vouches port text = is_vouched_for port.inbox.key port.inbox.came text ≡ true

-- what contracts see of the log's file
abbrev pub file_disk : Disk FileDisk
file_disk = record {
  history = file_history;
  is_kept = file_agrees;
  failures_of = λ disk. disk.failures;
  room = λ disk. file_room;
}

-- what contracts see of a port over UDP
abbrev pub udp_port : Port (UdpPort LibcRuntime)
udp_port = record {
  given = λ port. None;
  offered = λ port. None;
  failures_of = λ port. port.failures;
  does = DoesOverUdp;
  vouches = port_vouches;
  may_send = λ port text. IsGranted port.granted.all text;
}

-- The port handed all queued datagrams to the system, in order and each once, and nothing else. Its
-- configuration and keys are unchanged, and nothing was received.
pub record HasFlushed (old new : Running) : Type 0 where
  pub same : new ≡ record old { port = new.port }
  pub setup : setup_of new.port ≡ setup_of old.port
  pub inbox : new.port.inbox ≡ old.port.inbox
  pub outbox : new.port.outbox ≡ old.port.outbox
  pub left : new.port.leaving.waiting.items ≡ []
  pub handed : new.port.handed.all
      ≡ old.port.handed.all ++ texts_that_wait old.port.leaving.waiting.items

-- The node is the member's, over the tree, among members with these weights, as restored from this
-- log's notes. Suppose the file does what its history says. Then it did so before, these are the
-- log's notes, the node has them on it, and a crash while it was opened left what a crash before
-- could leave. The bytes of a file determine its notes.
pub record IsNodeOf (tree : Tree) (weights : List ℕ) (me : ℕ) (log : FileDisk)
    (n : LoggedNode FileDisk) : Type 0 where
  pub opened : IsOpened tree weights me n.node
  pub kept : file_agrees n.log.disk → file_agrees log
  pub notes : file_agrees n.log.disk → Opens (identity_of n.node.member) (seen (file_history log))
      (Ok (texts_of n.node.notes))
  pub on_log : file_agrees n.log.disk → IsOnLog file_history n
  pub any_moment : file_agrees n.log.disk → AllAlong
      (OpensAsLeft (identity_of n.node.member) (file_history log)) (file_history log)
      (file_history n.log.disk)
  pub one_answer : HasOneAnswer (identity tree weights me)

-- The state is that of the member's node, which was opened on this log, with no state from earlier
-- turns and this port.
pub record IsOpenedOn (log : FileDisk) (own_port : UdpPort LibcRuntime) (tree : Tree)
    (weights : List ℕ) (me : ℕ) (s : Running) : Type 0 where
  pub node : IsNodeOf tree weights me log s.node
  pub pending : s.pending ≡ nothing_kept
  pub port : s.port ≡ own_port

-- `Is` holds of the state of the member's node when it was opened on this log with this port.
pub record IsOfNodeOn (log : FileDisk) (port : UdpPort LibcRuntime) (tree : Tree)
    (weights : List ℕ) (me : ℕ) (Is : Running → Type 0) : Type 0 where
  pub before : Running
  pub opened : IsOpenedOn log port tree weights me before
  pub is : Is before

-- ---- runs

-- The run that a node belongs to: the tree, the members' weights and addresses, the key if there is
-- one, and whether a log must already exist. Without a key it may accept datagrams from all
-- addresses.
pub record RunOf : Type 0 where
  pub tree : Tree
  pub weights : List ℕ
  pub addresses : List SocketAddr
  pub key : Option Text
  pub is_open : Bool
  pub is_continued : Bool

-- all members are on one host
abbrev pub is_local : Peers → Bool
is_local (Base port) = true
is_local (Hosts text) = false

-- These are the addresses of this many members that the arguments describe: on this host, from the
-- first port on, or the hosts that the text writes.
abbrev pub Listen : Peers → ℕ → List SocketAddr → Type 0
Listen (Base port) members addresses = (length addresses ≡ members) × AreLocal port addresses
Listen (Hosts text) members addresses =
    (length addresses ≡ members) × WriteHosts (pieces_at comma text.now) addresses

-- The run is the one that the arguments describe. A listing describes the tree, in which each path
-- is a group of its own if `is_single`. The weights and the addresses are those of the arguments,
-- and a read of the key's file gave the key. Unless there is a key, datagrams from strangers are
-- accepted if all members are on one host.
pub record IsRunOf (gave : Text → ℕ → Text → Type 0) (is_single : Bool) (members : ℕ)
    (weights : Option Text) (peers : Peers) (run : Run) (of : RunOf) : Type 0 where
  pub described : IsDescribed is_single of.tree
  pub told : AreTold members weights of.weights
  pub listen : Listen peers members of.addresses
  pub has_key : IsKeyOf gave (option_map (λ t. t.now) run.key) of.key
  pub open_to : of.is_open ≡ is_local peers
  pub continued : of.is_continued ≡ run.is_continued

-- the run of a node at this place
abbrev pub run_at : Tree → List ℕ → Place → RunOf
run_at tree weights place = record {
  tree = tree;
  weights = weights;
  addresses = place.addresses.items;
  key = place.sealing.key;
  is_open = place.sealing.is_open;
  is_continued = place.is_continued;
}

-- the listing that notices are about, if the node reads and sends notices in a run with this number
-- of units
abbrev pub listing_of : Tree → Option ℕ → Option Listing
listing_of tree None = None
listing_of tree (Some units) = Some (record { digest = tree_digest tree; units = units })

-- The port seals what it sends, and opens what it receives, with the run's key, if there is one. It
-- accepts no datagrams from strangers if there is a key, or if the run doesn't accept them.
pub record IsGuarded (of : RunOf) (port : UdpPort LibcRuntime) : Type 0 where
  pub opens : port.inbox.key ≡ seal_of of.tree of.weights of.key
  pub seals : port.outbox.key ≡ seal_of of.tree of.weights of.key
  pub sealed : of.key ≢ None → port.is_open ≡ false
  pub closed : of.is_open ≡ false → port.is_open ≡ false

-- The port has only the member's node: it listens at its address among those of the run, and sends
-- to the others' addresses.
pub record IsSeated (of : RunOf) (me : ℕ) (port : UdpPort LibcRuntime) : Type 0 where
  pub seat : IsSeatOf port.seats.items me 0
  pub lone : length port.seats.items ≡ 1
  pub addresses : port.addresses.items ≡ of.addresses

-- A start in the run was made for the member, in a folder in which a read of its run file gave
-- this, and about whose log this is supposed. The port is its own and accepts only what the run
-- allows. Nothing came there or left yet, and nothing waits.
pub record HasBegun (gave : Option Text → Type 0) (known : History) (of : RunOf) (me : ℕ)
    (begun : Begun) : Type 0 where
  pub started : IsStarted gave known (owner of.tree of.weights me) (shown_of of.key)
      of.is_continued begun.start.disk (option_map string_bytes begun.start.unwritten)
  pub seated : IsSeated of me begun.port
  pub guarded : IsGuarded of begun.port
  pub empty : IsEmpty begun.port

-- `Is` holds of the state of the member's node when it was opened on the log of a start in the run,
-- with a port of its own that accepts only what the run allows.
pub record IsOfNode (gave : Option Text → Type 0) (known : History) (of : RunOf) (me : ℕ)
    (Is : Running → Type 0) : Type 0 where
  pub begun : Begun
  pub has_begun : HasBegun gave known of me begun
  pub opened : IsOfNodeOn begun.start.disk begun.port of.tree of.weights me Is

-- the first port is low enough for all members
abbrev pub AreGood : Peers → Type 0
AreGood (Base port) = port ≤ 65526
AreGood (Hosts text) = ⊤

-- ---- refusals

-- the text doesn't have hosts for this many members, and this is the first bad one; a first port is
-- never refused
abbrev pub IsHostsRefusal : ℕ → Peers → Refusal → Type 0
IsHostsRefusal members (Base port) r = ⊥
IsHostsRefusal members (Hosts text) r =
    (n : ℕ) × IsFirstBad members (pieces_at comma text.now) n
    × (r ≡ record { number = 1206; place = Some n })

-- what is reported about the key's file or the hosts, or memory ran out
abbrev pub RefusesPlace : (Text → ℕ → Text → Type 0) → ℕ → Peers → Run → Refusal → Type 0
RefusesPlace gave members peers run r =
    RefusesKeyFile gave (option_map (λ t. t.now) run.key) r
    ⊎ (IsHostsRefusal members peers r ⊎ (r ≡ memory_refusal))

-- no member has this number
abbrev pub member_refusal : Refusal
member_refusal = record { number = 909; place = None }

-- the member's address isn't available
abbrev pub socket_refusal : Refusal
socket_refusal = record { number = 1204; place = None }

-- the log can't be opened as a node of the member
abbrev pub IsLogRefusal : Refusal → Type 0
IsLogRefusal r = (f : NodeFault) × (r ≡ record { number = number_of f; place = None })

-- what is reported about the member's number, the start on the log, the socket, or the log
abbrev pub RefusesStart : (ℕ → Type 0) → (Option Text → Type 0) → ℕ → RunOf → Refusal → Type 0
RefusesStart had_mode gave me of r =
    IsSystemRefusal r
    ⊎ (((r ≡ member_refusal) × (length of.weights ≤ me))
    ⊎ (IsStartRefusal had_mode gave (owner of.tree of.weights me) (shown_of of.key)
    of.is_continued r
    ⊎ ((r ≡ socket_refusal) ⊎ IsLogRefusal r)))

-- the system's refusal if the run file can't be written, out of memory, or the log's refusal
abbrev pub RefusesOnLog : Refusal → Type 0
RefusesOnLog r = IsSystemRefusal r ⊎ IsLogRefusal r
