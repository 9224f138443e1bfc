-- The calls of `dpbn`, as clap matches their words.
use Rattle.std.specs.Prelude.{◌≡◌, ◌||◌, ℕ, codes, if◌then◌else◌, is_some, List, [], ◌∷◌, Bool, Option, None, Some, option_map, true, false}
use Rattle.std.specs.Str.{bytes_eq}
use Rattle.clap.specs.Kinds.{or_else}
use Rattle.clap.specs.Words.{App, Kinds, Row, Text, fault_of, first_of, subcommand_of}
use Rattle.clap.specs.declared.error.kind.ErrorKind.TheVariants.{ArgumentConflict, MissingRequiredArgument}
use Rattle.dpbn_cli.specs.declared.Call.{Call}
use Rattle.dpbn_cli.specs.declared.Call.TheVariants.{Build, Cluster, Explain, Key, Node, Release}
use Rattle.dpbn_cli.specs.declared.Files.{Files}
use Rattle.dpbn_cli.specs.declared.Peers.{Peers}
use Rattle.dpbn_cli.specs.declared.Peers.TheVariants.{Base, Hosts}
use Rattle.dpbn_cli.specs.declared.Run.{Run}
use Rattle.dpbn_cli.specs.declared.Site.{Site}
use Rattle.dpbn_cli.specs.declared.call_table.TheConstants.{BASE, CALLS, JOBS, ME, MEMBERS, PATIENCE, REST, PROGRESS_IN_SECONDS, TAKEOVER, TRIES, TURNS, PROGRESS_IN_TURNS}
use Rattle.dpbr_cli.specs.Calls.{IsExplained, number_fault}
use Rattle.dpbr_cli.specs.Explaining.{asks_release}
use Rattle.dpbr_cli.specs.Table.{program, shapes_of}
use Rattle.dpbr_cli.specs.Values.{IsFlag, IsNumberIf, IsNumberOf, IsWord, IsWordIf, is_set}

-- ---- what clap is given

-- the program: it requires one of the subcommands of the table
unfoldable pub dpbn_app : App
dpbn_app = program (codes "dpbn")
    (shapes_of (λ text. text.now) (λ rows. rows.now) (λ lists. lists.now) CALLS)

-- The subcommand that clap matches in the words, and its matches for that subcommand's arguments.
-- `--version` counts as a subcommand without arguments if it is the only word after the program's
-- name.
unfoldable pub matched : List Text → Option (Text × List Row)
matched words =
    if asks_release words then Some (codes "--version", []) else subcommand_of dpbn_app words

-- ---- refused words

-- whether a value was matched for an argument
abbrev pub is_given : List Row → Text → Bool
is_given rows id = is_some (first_of id rows)

-- of two options exactly one is required: the fault if both were given, or neither
abbrev pub choice_fault : Bool → Bool → Kinds
choice_fault true true = ArgumentConflict ∷ []
choice_fault false false = MissingRequiredArgument ∷ []
choice_fault _ _ = []

-- A node with hosts needs the file of its key, or the flag that it has no key. No node may have
-- both.
abbrev pub sealing_fault : Bool → Bool → Bool → Kinds
sealing_fault has_hosts true true = ArgumentConflict ∷ []
sealing_fault true false false = MissingRequiredArgument ∷ []
sealing_fault _ _ _ = []

-- The node of one member needs either the first port of all members or their hosts, and then its
-- key.
abbrev pub one_node_fault : List Row → Kinds
one_node_fault rows =
    or_else (choice_fault (is_given rows (codes "base")) (is_given rows (codes "hosts")))
    (sealing_fault (is_given rows (codes "hosts")) (is_given rows (codes "key"))
    (is_set rows (codes "unsealed")))

-- the fault of a call; the previous rules apply to `node` and `build`
abbrev pub call_fault : Option (Text × List Row) → Kinds
call_fault None = []
call_fault (Some (name, rows)) =
    if bytes_eq name (codes "node") || bytes_eq name (codes "build") then one_node_fault rows
    else (if bytes_eq name (codes "explain") then number_fault rows else [])

-- the kinds of the faults that clap finds in the words, one of which it reports, or else the fault
-- of the call
abbrev pub parse_faults : List Text → Kinds
parse_faults words = or_else (fault_of dpbn_app words) (call_fault (subcommand_of dpbn_app words))

-- the kinds of the faults in the words; words that ask for the release have no fault
unfoldable pub faults_of : List Text → Kinds
faults_of words = if asks_release words then [] else parse_faults words

-- the words are accepted: there is no fault in them
abbrev pub AreTaken : List Text → Type 0
AreTaken words = faults_of words ≡ []

-- ---- calls

-- the values for the subcommands whose nodes take a given number of turns
pub record AreFiles (rows : List Row) (f : Files) : Type 0 where
  pub listing : IsWord rows (codes "listing") f.listing.now
  pub builds : IsWord rows (codes "builds") f.builds.now
  pub dir : IsWord rows (codes "dir") f.dir.now
  pub members : IsNumberOf rows (codes "members") MEMBERS.2 f.members
  pub turns : IsNumberOf rows (codes "turns") TURNS.2 f.turns
  pub weights : IsWordIf rows (codes "weights") (option_map (λ t. t.now) f.weights)
  pub progress : IsNumberIf rows (codes "progress") PROGRESS_IN_TURNS.2 f.progress
  pub single : IsFlag rows (codes "single") f.is_single

-- the values about the site of a node whose claims are built
pub record IsSite (rows : List Row) (s : Site) : Type 0 where
  pub listing : IsWord rows (codes "listing") s.listing.now
  pub work : IsWord rows (codes "work") s.work.now
  pub dir : IsWord rows (codes "dir") s.dir.now
  pub members : IsNumberOf rows (codes "members") MEMBERS.2 s.members
  pub weights : IsWordIf rows (codes "weights") (option_map (λ t. t.now) s.weights)
  pub jobs : IsNumberIf rows (codes "jobs") JOBS.2 s.jobs
  pub takeover : IsNumberIf rows (codes "takeover") TAKEOVER.2 s.takeover
  pub tries : IsNumberIf rows (codes "tries") TRIES.2 s.tries
  pub rest : IsNumberIf rows (codes "rest") REST.2 s.rest
  pub progress : IsNumberIf rows (codes "progress") PROGRESS_IN_SECONDS.2 s.progress
  pub single : IsFlag rows (codes "single") s.is_single

-- where the members listen: only one of the two options was given
abbrev pub ArePeers : List Row → Peers → Type 0
ArePeers rows (Base port) =
    IsNumberOf rows (codes "base") BASE.2 port × IsWordIf rows (codes "hosts") None
ArePeers rows (Hosts text) =
    IsWord rows (codes "hosts") text.now × IsWordIf rows (codes "base") None

-- the file of the key, if one was given, and whether the run is continued
pub record IsRun (rows : List Row) (run : Run) : Type 0 where
  pub key : IsWordIf rows (codes "key") (option_map (λ t. t.now) run.key)
  pub continues : run.is_continued ≡ is_set rows (codes "continue")

-- the values for the node of one member: its number, its peers, how long a turn waits, and its run
abbrev pub IsOneNode : List Row → ℕ → Peers → Option ℕ → Run → Type 0
IsOneNode rows me peers patience run = IsNumberOf rows (codes "me") ME.2 me × ArePeers rows peers
    × IsNumberIf rows (codes "patience") PATIENCE.2 patience × IsRun rows run

-- clap matched the call's subcommand, and the call has the values of its matches
abbrev pub IsCallOf : Option (Text × List Row) → Call → Type 0
IsCallOf None call = ⊥
IsCallOf (Some (name, rows)) (Cluster files trace) = (name ≡ codes "cluster") × AreFiles rows files
    × IsWordIf rows (codes "trace") (option_map (λ t. t.now) trace)
IsCallOf (Some (name, rows)) (Node files me peers patience run) = (name ≡ codes "node")
    × AreFiles rows files × IsOneNode rows me peers patience run
IsCallOf (Some (name, rows)) (Build site me peers patience run) = (name ≡ codes "build")
    × IsSite rows site × IsOneNode rows me peers patience run
IsCallOf (Some (name, rows)) (Key file) =
    (name ≡ codes "key") × IsWord rows (codes "FILE") file.now
IsCallOf (Some (name, rows)) (Explain number) = (name ≡ codes "explain") × IsExplained rows number
IsCallOf (Some (name, rows)) Release = name ≡ codes "--version"
