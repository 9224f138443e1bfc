-- The headline theorem: one agreed list at every point of a run.
use Rattle.engine.specs.Division.{Division, number_found, unit_at}
use Rattle.engine.specs.Tree.{position_of}
use Rattle.std.specs.Prelude.{◌≡◌, ◌≢◌, ◌++◌, ℕ, Bool, true, List, ◌∷◌, Option, Some, All, AllPairs, Contains, is_some, length, map, slice_get}
use Rattle.sha2.specs.Sha256.{sha256}
use Rattle.faults.specs.Bytes.{Text}
use Rattle.claims.specs.declared.claim.Claim.{Claim}
use Rattle.auditing.specs.Allowed.{IsAllowed}
use Rattle.auditing.specs.Fits.{Fits}
use Rattle.auditing.specs.declared.entry.Entry.{Entry}
use Rattle.ballots.specs.declared.message.Note.{Note}
use Rattle.claims.specs.Job.{Task}
use Rattle.claims.specs.declared.deps.Dep.{Dep}
use Rattle.engine.specs.State as engine
use Rattle.engine.specs.declared.Letter.TheVariants as letters
use Rattle.package_record.specs.Content.{Content, IsRecord, record_text}
use Rattle.protocol.specs.Given.{Given}
use Rattle.protocol.specs.Jobs.{job_of, record_by, signature}
use Rattle.protocol.specs.State.{Building, Value, engine_of, facts_at, held_record}
use Rattle.protocol.specs.Events.{Event, Built}
use Rattle.world.specs.Happening.{Happens, Leads}
use Rattle.world.specs.World.{World, WorldNode, member_at, start}

-- ---- built by a host under a claim

-- The list has a package with exactly this signature.
abbrev pub HasSignature : List Content → Dep → Type 0
HasSignature list d = (r : Content) × Contains list r × (signature r ≡ d)

-- The event is a Built at a node that is up and whose open claim was waiting for a build of the
-- event's unit.
pub record TakesBuilt (w : World) (e : Event) : Type 0 where
  pub builder : ℕ
  pub path : Text
  pub files : Given
  pub event : e ≡ Built builder path files
  pub node : WorldNode
  pub stands : (slice_get w.nodes builder ≡ Some node) × (node.up ≡ true)
  pub unit : ℕ
  pub host : ℕ
  pub claim : Claim
  pub waits : node.claim ≡ Some (record { unit = unit; host = host; progress = Building claim })
  pub for_unit : number_found w.division path ≡ Some unit

-- the job of that claim
abbrev pub its_job : (w : World) (e : Event) → TakesBuilt w e → Task
its_job w e b = job_of (member_at w b.builder b.node) b.unit b.host b.claim

-- The event built the package: the package is in the claim's unit, and its record is the one that
-- the claim's job gives with the event's files. Each package that it was built on was in the list
-- with exactly that signature.
pub record Builds (w : World) (e : Event) (r : Content) : Type 0 where
  pub takes : TakesBuilt w e
  pub position : ℕ
  pub of_package : position_of w.division.tree r.path ≡ Some position
  pub in_unit : Contains (unit_at w.division takes.unit).packages position
  pub record_is : r ≡ record_by w.division.tree (its_job w e takes) takes.files position
  pub stood : All (HasSignature w.agreed) r.built

-- One of the events on the way from the start to here built the package.
pub record WasBuilt (division : Division) (weights : List ℕ) (events : List Event) (r : Content) :
    Type 0 where
  pub before : List Event
  pub event : Event
  pub behind : List Event
  pub among : events ≡ before ++ event ∷ behind
  -- the worlds before and after the event
  pub world : World
  pub led : Leads (start division weights) before world
  pub then : World
  pub happened : Happens world event then
  pub builds : Builds world event r

-- ---- what a node holds

-- the package that node k holds for the path, as its notes restore it, whether the node is up or
-- down
abbrev pub holds : World → ℕ → WorldNode → Text → Option Content
holds w k x path = held_record (member_at w k x) path

-- The set is closed: for each path in it, it contains the run dependencies of the package held for
-- that path.
abbrev pub IsClosed : (Text → Option Content) → (Text → Bool) → Type 0
IsClosed held S = (path : Text) (r : Content) → S path ≡ true → held path ≡ Some r
    → All (λ q. S q ≡ true) r.run

-- The second path is in the least closed set that contains the first: it is in every such set.
abbrev pub IsInRunClosure : (Text → Option Content) → Text → Text → Type 0
IsInRunClosure held p q = (S : Text → Bool) → S p ≡ true → IsClosed held S → S q ≡ true

-- ---- at every point of a run

-- P holds at every point of the run. For each prefix of the events, the prefix leads to some world,
-- the rest of the events leads from there to the last world, and P holds of that world. By law
-- events_have_one_answer there is only one such world.
abbrev pub AtEachMoment : Division → List ℕ → List Event → World → (List Event → World → Type 0)
    → Type 0
AtEachMoment division weights events last P =
    (early late : List Event) → events ≡ early ++ late
    → (w : World) × Leads (start division weights) early w × Leads w late last × P early w

-- The list is a prefix of the longer one.
abbrev pub IsBeginningOf : List Content → List Content → Type 0
IsBeginningOf list longer = (more : List Content) × (longer ≡ list ++ more)

-- The later world has the same division, weights and number of nodes. The notes of each node, the
-- datagrams sent and the agreed list only grew, by appending.
pub record IsLater (w later : World) : Type 0 where
  pub division : later.division ≡ w.division
  pub weights : later.weights ≡ w.weights
  pub nodes : length later.nodes ≡ length w.nodes
  pub notes : (k : ℕ) (x y : WorldNode) → slice_get w.nodes k ≡ Some x
      → slice_get later.nodes k ≡ Some y → (more : List (Note Value)) × (y.notes ≡ x.notes ++ more)
  pub sent : (more : List Text) × (later.sent ≡ w.sent ++ more)
  pub agreed : IsBeginningOf w.agreed later.agreed

-- The list has at most one package for each path.
abbrev pub HasOneAPath : World → Type 0
HasOneAPath w = AllPairs ◌≢◌ (map (λ r. r.path) w.agreed)

-- Each package of the list is a record: it has a text, and parsing that text yields the package.
abbrev pub AreRecords : World → Type 0
AreRecords w = All IsRecord w.agreed

-- Each package of the list fits the tree.
abbrev pub AllFit : World → Type 0
AllFit w = All (λ r. Fits w.division.tree r.path r.name r.built r.run) w.agreed

-- Each package that a node holds, up or down, is in the list, as exactly that record and under its
-- path.
pub record HeldIsListed (w : World) : Type 0 where
  pub builds : (k u : ℕ) (x : WorldNode) (build : Value) → slice_get w.nodes k ≡ Some x
      → (facts_at (member_at w k x) u).held ≡ Some build → All (Contains w.agreed) build
  pub paths : (k : ℕ) (x : WorldNode) (path : Text) (r : Content) → slice_get w.nodes k ≡ Some x
      → holds w k x path ≡ Some r → (r.path ≡ path) × Contains w.agreed r

-- A node of one world and a node of the other never hold different packages for one path.
abbrev pub HoldAlike : World → World → Type 0
HoldAlike v w =
    (j k : ℕ) (x y : WorldNode) (path : Text) (r q : Content) → slice_get v.nodes j ≡ Some x
    → slice_get w.nodes k ≡ Some y
    → holds v j x path ≡ Some r → holds w k y path ≡ Some q → r ≡ q

-- A node that is up and shows a path as installable holds all of the path's run closure.
abbrev pub InstallableIsHeld : World → Type 0
InstallableIsHeld w =
    (k p : ℕ) (x : WorldNode) (path q : Text) → slice_get w.nodes k ≡ Some x → x.up ≡ true
    → position_of w.division.tree path ≡ Some p
    → engine.HasLetter (engine_of (member_at w k x)) p letters.I
    → IsInRunClosure (holds w k x) path q → is_some (holds w k x q) ≡ true

-- a package as an entry of a list that is audited
abbrev pub entry_of : Content → Entry
entry_of r =
    record { path = r.path; name = r.name; digest = sha256 (record_text r); built = r.built }

-- An audit accepts the list.
abbrev pub AuditSaysYes : World → Type 0
AuditSaysYes w = IsAllowed w.division.tree (map entry_of w.agreed)

-- The headline theorem. At every point of the run there is one list of packages. It only grows, and
-- it has at most one package for each path. Each package was built by a host under a claim for its
-- unit, after every dependency in its signature was in the list with exactly that signature. Every
-- package that a node holds is in the list, so at no point does a node hold another package for a
-- path than a node holds at the end. If a node shows a path as installable, it holds the path's run
-- closure. Besides, each package is a record and fits the tree, and an audit accepts the list.
pub record HasOneList (division : Division) (weights : List ℕ) (events : List Event) (last : World)
    : Type 0 where
  pub grows : AtEachMoment division weights events last
      (λ early w. IsBeginningOf w.agreed last.agreed)
  pub one_a_path : AtEachMoment division weights events last (λ early w. HasOneAPath w)
  pub built : AtEachMoment division weights events last
      (λ early w. All (WasBuilt division weights early) w.agreed)
  pub records : AtEachMoment division weights events last (λ early w. AreRecords w)
  pub fits : AtEachMoment division weights events last (λ early w. AllFit w)
  pub held : AtEachMoment division weights events last (λ early w. HeldIsListed w)
  pub alike : AtEachMoment division weights events last (λ early w. HoldAlike w last)
  pub installable : AtEachMoment division weights events last (λ early w. InstallableIsHeld w)
  pub allowed : AtEachMoment division weights events last (λ early w. AuditSaysYes w)
