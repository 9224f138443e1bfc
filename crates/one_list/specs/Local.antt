-- What holds of each node of a world by itself, whatever the others do.
use Rattle.engine.specs.Division.{number_named}
use Rattle.std.specs.Prelude.{◌≡◌, ◌<◌, ℕ, true, false, List, [], ◌∷◌, None, Some, All, AllPairs, length, slice_get}
use Rattle.std.specs.Option.{ForSome}
use Rattle.ballots.specs.declared.message.Fact.{Fact}
use Rattle.ballots.specs.declared.message.Fact.TheVariants as fact
use Rattle.ballots.specs.declared.message.Message.{Message}
use Rattle.ballots.specs.declared.message.Note.{Note}
use Rattle.protocol.specs.Member.{IsOpen}
use Rattle.protocol.specs.State.{OpenClaim, Value, name_at}
use Rattle.node.specs.Ranges.{IsProgressOf}
use Rattle.wire.specs.Joining.{is_numbered}
use Rattle.wire.specs.Messages.{IsNote}
use Rattle.wire.specs.declared.datagram.Piece.{Piece}
use Rattle.one_list.specs.Safety.{WasSentOf}
use Rattle.world.specs.World.{World, WorldNode, member_at}

-- the members named by the claim in a note
abbrev pub members_noted : Fact Value → List ℕ
members_noted (fact.Opened round) = []
members_noted (fact.Promised c) = c.member ∷ []
members_noted (fact.Voted c v) = c.member ∷ []
members_noted (fact.Held v) = []

-- The note can be encoded, is about a unit, and names only members of the world.
pub record IsOfUnit (w : World) (n : Note Value) : Type 0 where
  pub note : IsNote n
  pub unit : ℕ
  pub of_unit : number_named w.division n.path ≡ Some unit
  pub claimers : All (λ k. k < length w.weights) (members_noted n.fact)

-- Node k's open claim is valid: it is the member's own, for a unit that the member doesn't hold but
-- whose dependencies it holds. The claim's progress is about that unit.
pub record IsItsClaim (w : World) (k : ℕ) (x : WorldNode) (o : OpenClaim) : Type 0 where
  pub is_open : IsOpen (member_at w k x) o
  pub progress : IsProgressOf (name_at (member_at w k x) o.unit) o.progress

-- The pieces that a node keeps belong to messages that were sent, and none is kept twice.
pub record AreKept (w : World) (pieces : List Piece) : Type 0 where
  pub sent : All (λ p. (m : Message Value) × WasSentOf w.sent m p) pieces
  pub once : AllPairs (λ p q. is_numbered q.header q.number p ≡ false) pieces

-- the invariant of node k
pub record IsLocal (w : World) (k : ℕ) (x : WorldNode) : Type 0 where
  pub notes : All (IsOfUnit w) x.notes
  pub claim : ForSome x.claim (IsItsClaim w k x)
  pub pieces : AreKept w x.pieces
  -- A node that is down has only its notes; one that is up has no torn bytes after them.
  pub down : x.up ≡ false → (x.claim ≡ None) × (x.pieces ≡ [])
  pub up : x.up ≡ true → x.behind ≡ []

-- Every node satisfies the invariant, and there is one node for each weight.
pub record AreLocal (w : World) : Type 0 where
  pub each : (k : ℕ) (x : WorldNode) → slice_get w.nodes k ≡ Some x → IsLocal w k x
  pub one_for_each : length w.nodes ≡ length w.weights
