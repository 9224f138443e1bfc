-- What the turns of a run lead to.
use Rattle.std.specs.Prelude.{◌≡◌, ℕ, List, None, Some}
use Rattle.protocol.specs.Events.{Event}
use Rattle.listing.specs.Tree.{Tree}
use Rattle.protocol.specs.State.{State}
use Rattle.cluster_turns.specs.State.{ClusterState, here_of}
use Rattle.engine.specs.Division.{Division}
use Rattle.world.specs.Happening.{Leads}
use Rattle.world.specs.Headline.{HasOneAPath}
use Rattle.world.specs.World.{IsMade, World, start}

-- The events lead from the start, among members with these weights, over the tree, to a world whose
-- agreed list has at most one package for each path.
pub record LeadToOneList (tree : Tree) (weights : List ℕ) (events : List Event) : Type 0 where
  pub division : Division
  pub of_tree : division.tree ≡ tree
  pub made : IsMade division weights
  pub world : World
  pub led : Leads (start division weights) events world
  pub one_a_path : HasOneAPath world

-- No node that is up has an open claim.
abbrev pub HasNoClaims : {D P : Type 0} → ClusterState D P → Type 0
HasNoClaims c = (k : ℕ) (s : State) → here_of c k ≡ Some s → s.claim ≡ None
