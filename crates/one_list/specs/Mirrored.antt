-- A run of a world together with the acts of the agreements that it corresponds to.
use Rattle.engine.specs.Division.{Division, number_found}
use Rattle.std.specs.Prelude.{◌≡◌, ◌++◌, ℕ, true, List, [], ◌∷◌, Option, None, Some, slice_get}
use Rattle.faults.specs.Bytes.{Text}
use Rattle.claims.specs.declared.claim.Claim.{Claim}
use Rattle.claims.specs.AgreedList.{Act, Cluster, after_acts, beginning}
use Rattle.claims.specs.Quorums.{is_majority}
use Rattle.claims.specs.Step as theory
use Rattle.claims.specs.World as theory_of_one
use Rattle.protocol.specs.Given.{Given}
use Rattle.protocol.specs.Jobs.{build_by, job_of}
use Rattle.protocol.specs.State.{Building, State, Value}
use Rattle.protocol.specs.Events.{Event, Built}
use Rattle.one_list.specs.Matches.{Matches}
use Rattle.one_list.specs.Needs.{may_build}
use Rattle.world.specs.Happening.{Happens}
use Rattle.world.specs.World.{World, WorldNode, member_at, start}

-- the build that a claim's job on this host makes of the files
abbrev pub made_of : State → ℕ → ℕ → Claim → Given → Value
made_of s u host c files = build_by s u (job_of s u host c) files

-- The event is a Built for unit u at node k, which is up and whose open claim waited for it.
-- `build` is what the claim's job makes of the event's files.
pub record MakesBuild (w : World) (e : Event) (k u : ℕ) (build : Value) : Type 0 where
  pub path : Text
  pub files : Given
  pub event : e ≡ Built k path files
  pub for_unit : number_found w.division path ≡ Some u
  pub node : WorldNode
  pub stands : slice_get w.nodes k ≡ Some node
  pub up : node.up ≡ true
  pub host : ℕ
  pub claim : Claim
  pub opened : node.claim ≡ Some (record { unit = u; host = host; progress = Building claim })
  pub build_is : build ≡ made_of (member_at w k node) u host claim files

-- the cluster of agreements after the acts
abbrev pub after_all_acts : Division → List ℕ → List (Act Value) → Cluster Value
after_all_acts division weights acts =
    after_acts (is_majority weights) (may_build division) acts beginning

-- the acts, with one more appended if there is one
abbrev pub with_act : List (Act Value) → Option (Act Value) → List (Act Value)
with_act acts None = acts
with_act acts (Some a) = acts ++ a ∷ []

-- If the act is a build, the event is that its member built this.
abbrev pub IsActOf : World → Event → Option (Act Value) → Type 0
IsActOf w e None = Prim.Unit {0}
IsActOf w e (Some a) =
    (k : ℕ) (v : Value) → a.event ≡ theory_of_one.Take k (theory.Built v)
    → MakesBuild w e k a.path v

-- The world matches the cluster after the acts, at every point: each event was one act or none.
pub data Mirrors (division : Division) (weights : List ℕ) : List Event → World → List (Act Value)
    → Type 0 where
  at_start : Mirrors division weights [] (start division weights) []
  and_then : (events : List Event) (w v : World) (acts : List (Act Value)) (e : Event)
      (o : Option (Act Value))
      → Mirrors division weights events w acts
      → Matches w (after_all_acts division weights acts)
      → Happens w e v → IsActOf w e o
      → Mirrors division weights (events ++ e ∷ []) v (with_act acts o)
