-- The hosts of programs: what is there while the programs run, and once they ended.
use Rattle.std.proofs.Common.{◌≡◌, ◌≢◌, ◌<◌, ℕ, true, false, List, [], ◌∷◌, Some, Ok, length, slice_get, slice_set, refl, sym, ap, subst, ◌∙◌, arith, inl, inr}
use Rattle.std.specs.Prelude.{Contains}
use Rattle.faults.specs.Bytes.{Text}
use Rattle.dpbn_node.specs.Runs.{Running}
use Rattle.laws.proofs.Places.{all_there, one_alike, some_alike}
use Rattle.laws.proofs.Reopened.{notes_stay}
use Rattle.laws.specs.Hosts.{Down, Host, Hosts, IsLeft, Up, WasOffered, at_start}
use Rattle.laws.specs.ProgramLaws.{AreHostsOf}
use Rattle.laws.specs.Programs.{Place, Programs, Rests, Runs, at_first}
use Rattle.listing.specs.Tree.{Tree}
use Rattle.node.specs.OnLog.{IsOnLog, identity, identity_of, texts_of}
use Rattle.node.specs.State.{NodeState}
use Rattle.node.specs.Step.{Asked, Comes, Does}
use Rattle.stable_record.specs.Crash.{MayLeave}
use Rattle.stable_record.specs.Log.{HasNotes}
use Rattle.stable_record.specs.Opening.{Opens, no_more_than_a_gate}
use Rattle.stable_record.specs.RealFile.{file_history}
use Rattle.stable_record.specs.declared.identity.Identity.{Identity}

-- what was offered stays offered
abbrev pub Grows : List Text → List Text → Type 0
Grows before after = (text : Text) → Contains before text → Contains after text

offered_later : (before after : List Text) → Grows before after → (asked : Asked)
    → WasOffered before asked → WasOffered after asked
offered_later before after grows (Comes text) came = grows text came
offered_later before after grows (Does input) came = tt

-- so what a node may leave, it may leave later
pub left_later : (before after : List Text) → Grows before after → (n : NodeState)
    → (ts : List Text) → IsLeft before n ts → IsLeft after n ts
left_later before after grows n ts (inl same) = inl same
left_later before after grows n ts (inr (asked, t, step, is)) = inr (
  asked,
  t,
  record {
    asks = step.asks;
    came = offered_later before after grows asked step.came;
    takes = step.takes;
    room = step.room;
  },
  is,
)

-- a stopped node is itself, stopped
pub still_stopped : (n : NodeState) → n.stopped ≡ true → n ≡ record n { stopped = true }
still_stopped n down = ap (λ b. record n { stopped = b }) down

module _ (tree : Tree) (weights : List ℕ) where
  -- A crash leaves the file of the program's log with notes such as this node may leave.
  abbrev pub LeavesOwn : List Text → ℕ → NodeState → Running → Type 0
  LeavesOwn texts k n s = (file : Text) → MayLeave (file_history s.node.log.disk) file
      → (ts : List Text) × HasNotes (identity tree weights k) ts file × IsLeft texts n ts

  -- The program runs where this node is up: it is its node, on its log, unless its device failed.
  pub record IsAt (texts : List Text) (k : ℕ) (s : Running) (n : NodeState) : Type 0 where
    pub own : identity_of n.member ≡ identity tree weights k
    pub up : s.node.node.stopped ≡ false → s.node.node ≡ n
    pub stopped : s.node.node.stopped ≡ true → s.node.node ≡ record n { stopped = true }
    pub on : s.node.node.stopped ≡ false → IsOnLog file_history s.node
    pub leaves : LeavesOwn texts k n s

  -- The place is that of the host.
  abbrev pub Stands : List Text → ℕ → Place → Host → Type 0
  Stands texts k (Runs s) host = (n : NodeState) × (host ≡ Up n) × IsAt texts k s n
  Stands texts k (Rests file) host =
      (ts : List Text) × (host ≡ Down ts) × Opens (identity tree weights k) file (Ok ts)

  abbrev pub HasHost : List Text → List Host → ℕ → Place → Type 0
  HasHost texts hosts k x = (y : Host) × (slice_get hosts k ≡ Some y) × Stands texts k x y

  -- All places are those of the hosts.
  pub record AreAt (p : Programs) (h : Hosts) : Type 0 where
    pub offered : h.offered ≡ p.offered
    pub each : (k : ℕ) (x : Place) → slice_get p.places k ≡ Some x
        → HasHost p.offered h.hosts k x

  -- it is there later, too
  stands_later : (before after : List Text) → Grows before after → (k : ℕ) (x : Place) (y : Host)
      → Stands before k x y → Stands after k x y
  stands_later before after grows k (Runs s) y (n, is, at) = (
    n,
    is,
    record {
      own = at.own;
      up = at.up;
      stopped = at.stopped;
      on = at.on;
      leaves = λ file may.
          let left = at.leaves file may in
          (left.0, left.1, left_later before after grows n left.0 left.2);
    },
  )
  stands_later before after grows k (Rests file) y is = is

  -- What happened at one place happened at its host, and the others stay.
  pub are_at_after : (p q : Programs) (h g : Hosts) (k : ℕ) (x z : Place) (y : Host) → AreAt p h
      → slice_get p.places k ≡ Some x → q.places ≡ slice_set p.places k z
      → g.offered ≡ q.offered → Grows p.offered q.offered
      → slice_get g.hosts k ≡ Some y
      → ((j : ℕ) → j ≢ k → slice_get g.hosts j ≡ slice_get h.hosts j)
      → Stands q.offered k z y
      → AreAt q g
  are_at_after p q h g k x z y are stood places same grows here others stands = record {
    offered = same;
    each = all_there (HasHost q.offered g.hosts) p.places q.places k x z stood places
        (y, here, stands)
        (λ j w other at.
        let old = are.each j w at in (
          old.0,
          others j other ∙ old.1,
          stands_later p.offered q.offered grows j w old.0 old.2,
        ));
  }

  -- a node that is on its log leaves its notes
  pub at_up : (texts : List Text) (k : ℕ) (s : Running)
      → identity_of s.node.node.member ≡ identity tree weights k → IsOnLog file_history s.node
      → IsAt texts k s s.node.node
  at_up texts k s own on = record {
    own = own;
    up = λ e. refl;
    stopped = still_stopped s.node.node;
    on = λ e. on;
    leaves = λ file may. (
      texts_of s.node.node.notes,
      subst (λ (i : Identity). HasNotes i (texts_of s.node.node.notes) file) own
          (notes_stay file_history s.node on file may),
      inl refl,
    );
  }

  -- ---- at first

  pub are_at_first : AreAt (at_first weights) (at_start weights)
  are_at_first = record {
    offered = refl;
    each = λ k x at.
        let one = one_alike (length weights) (Rests []) x k at in
        subst (HasHost [] (at_start weights).hosts k) one.1 (
          Down [],
          some_alike (length weights) (Down []) k one.0,
          ([], refl, inl (no_more_than_a_gate (omega arith), refl)),
        );
  }

  -- ---- what follows of the hosts

  module _ (p : Programs) (h : Hosts) (are : AreAt p h) where
    up_there : (k : ℕ) (s : Running) → HasHost p.offered h.hosts k (Runs s)
        → s.node.node.stopped ≡ false → slice_get h.hosts k ≡ Some (Up s.node.node)
    up_there k s (y, at, (n, is, own)) e =
        at ∙ ap Some is ∙ ap (λ m. Some (Up m)) (sym (own.up e))

    stopped_there : (k : ℕ) (s : Running) → HasHost p.offered h.hosts k (Runs s)
        → s.node.node.stopped ≡ true
        → (n : NodeState) × (slice_get h.hosts k ≡ Some (Up n))
        × (s.node.node ≡ record n { stopped = true })
    stopped_there k s (y, at, (n, is, own)) e = (n, at ∙ ap Some is, own.stopped e)

    down_there : (k : ℕ) (file : Text) → HasHost p.offered h.hosts k (Rests file)
        → (texts : List Text) × (slice_get h.hosts k ≡ Some (Down texts))
        × Opens (identity tree weights k) file (Ok texts)
    down_there k file (y, at, (ts, is, opens)) = (ts, at ∙ ap Some is, opens)

    pub are_hosts : AreHostsOf tree weights p h
    are_hosts = record {
      offered = are.offered;
      up = λ k s at. up_there k s (are.each k (Runs s) at);
      stopped = λ k s at. stopped_there k s (are.each k (Runs s) at);
      down = λ k file at. down_there k file (are.each k (Rests file) at);
    }
