-- One agreement for each path, members with at most one open claim over all paths, and the list of
-- all agreed values.
use Rattle.claims.specs.Quorums.{Quorums}
use Rattle.claims.specs.Step.{Start, Built, Failed, Nudge, Deliver, Inquire}
use Rattle.claims.specs.World.{World, Event, Take, Stop, StopIn, Restart, outcome, after_event}
use Rattle.claims.specs.World.{run, start}
use Rattle.claims.specs.Agreed.{decided_value, Builds}
use Rattle.std.specs.Prelude.{◌≡◌, ℕ, Bool, true, ◌⊎◌, ◌&&◌, ◌==◌, List, [], ◌∷◌, ◌++◌, Option}
use Rattle.std.specs.Prelude.{Some, None, is_some, if◌then◌else◌}

-- whether a value may be built for a path, given the values that its builder holds for each path
abbrev pub Needs : Type 0 → Type 0
Needs V = (ℕ → Option V) → ℕ → V → Bool

-- what is agreed for a path
pub record Entry (V : Type 0) : Type 0 where
  pub path : ℕ
  pub value : V

-- the agreements of all paths, and the list of agreed values
pub record Cluster (V : Type 0) : Type 0 where
  -- the agreement of each path
  pub at : ℕ → World V
  -- the agreed list, latest entry first
  pub list : List (Entry V)

-- an event for a path
pub record Act (V : Type 0) : Type 0 where
  pub path : ℕ
  pub event : Event V

-- the value in the list for the path
abbrev pub lookup : {V : Type 0} → List (Entry V) → ℕ → Option V
lookup [] p = None
lookup (e ∷ es) p = if e.path == p then Some e.value else lookup es p

-- What an event for one path is for each other path: opening a claim drops the member's open one,
-- and a stop is a stop for all paths.
abbrev pub elsewhere : {V : Type 0} → Event V → List (Event V)
elsewhere (Take i (Start above)) = Stop i ∷ Restart i ∷ []
elsewhere (Take i (Built v)) = []
elsewhere (Take i Failed) = []
elsewhere (Take i Nudge) = []
elsewhere (Take i (Deliver k)) = []
elsewhere (Take i Inquire) = []
elsewhere (Stop i) = Stop i ∷ []
elsewhere (StopIn i input) = Stop i ∷ []
elsewhere (Restart i) = Restart i ∷ []

-- what member i holds for the path
abbrev pub held_by : {V : Type 0} → Cluster V → ℕ → ℕ → Option V
held_by c i p = ((c.at p).members i).held

-- Whether the event may happen: a value may be built only if `may` allows it on what its builder
-- holds.
abbrev pub may_happen : {V : Type 0} → Needs V → Cluster V → ℕ → Event V → Bool
may_happen may c p (Take i (Built v)) = may (held_by c i) p v
may_happen may c p (Take i (Start above)) = true
may_happen may c p (Take i Failed) = true
may_happen may c p (Take i Nudge) = true
may_happen may c p (Take i (Deliver k)) = true
may_happen may c p (Take i Inquire) = true
may_happen may c p (Stop i) = true
may_happen may c p (StopIn i input) = true
may_happen may c p (Restart i) = true

-- The list with what is decided for p, unless it already has an entry for p.
abbrev pub list_with : {V : Type 0} → ℕ → List (Entry V) → Option V → Option V → List (Entry V)
list_with p list (Some u) d = list
list_with p list None None = list
list_with p list None (Some v) = record { path = p; value = v } ∷ list

-- the list after an event for p that leaves world w
abbrev pub list_then : {V : Type 0} → Quorums → ℕ → World V → List (Entry V) → List (Entry V)
list_then enough p w list = list_with p list (lookup list p) (decided_value enough w.sent w.sent)

-- the cluster after event e for p
abbrev pub cluster_after : {V : Type 0} → Quorums → Cluster V → ℕ → Event V → Cluster V
cluster_after enough c p e = record {
  at = λ q. if q == p then after_event enough (c.at q) e else run enough (elsewhere e) (c.at q);
  list = list_then enough p (after_event enough (c.at p) e) c.list;
}

-- An act that may not happen, or whose event is refused, changes nothing.
abbrev pub after_act : {V : Type 0} → Quorums → Needs V → Cluster V → Act V → Cluster V
after_act enough may c a =
    if may_happen may c a.path a.event && is_some (outcome enough (c.at a.path) a.event)
    then cluster_after enough c a.path a.event
    else c

-- the cluster after the acts, one after another
abbrev pub after_acts : {V : Type 0} → Quorums → Needs V → List (Act V) → Cluster V → Cluster V
after_acts enough may [] c = c
after_acts enough may (a ∷ rest) c = after_acts enough may rest (after_act enough may c a)

-- the initial cluster
abbrev pub beginning : {V : Type 0} → Cluster V
beginning = record { at = λ p. start; list = [] }

-- The late list extends the early one at its front: the latest entry is first.
abbrev pub Lengthens : {V : Type 0} → List (Entry V) → List (Entry V) → Type 0
Lengthens {V} early late = (more : List (Entry V)) × (late ≡ more ++ early)

-- Each entry is the first for its path, and is allowed by the entries before it.
abbrev pub IsAllowed : {V : Type 0} → Needs V → List (Entry V) → Type 0
IsAllowed may [] = Unit {0}
IsAllowed may (e ∷ es) =
    (lookup es e.path ≡ None) × (may (lookup es) e.path e.value ≡ true) × IsAllowed may es

-- A value that may be built on some values may be built on any larger set of them.
abbrev pub IsMonotone : {V : Type 0} → Needs V → Type 0
IsMonotone {V} may =
    (f g : ℕ → Option V) → ((p : ℕ) (v : V) → f p ≡ Some v → g p ≡ Some v)
    → (p : ℕ) (v : V) → may f p v ≡ true → may g p v ≡ true

-- By this act a member built the value for the path, with an open claim that waited for one, when
-- everything that it needs was in the list.
pub record BuildsNow (V : Type 0) (may : Needs V) (c : Cluster V) (a : Act V) (p : ℕ) (v : V)
    : Type 0 where
  pub path : a.path ≡ p
  pub builds : Builds (c.at a.path) a.event v
  pub listed : may (lookup c.list) p v ≡ true

-- One of the acts from c on built the value like that.
abbrev pub WasBuilt : {V : Type 0} → Quorums → Needs V → List (Act V) → Cluster V → ℕ → V → Type 0
WasBuilt enough may [] c p v = ⊥
WasBuilt {V} enough may (a ∷ rest) c p v =
    BuildsNow V may c a p v ⊎ WasBuilt enough may rest (after_act enough may c a) p v
