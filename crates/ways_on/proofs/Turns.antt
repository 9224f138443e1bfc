-- A complete turn of a node on the way: it receives the proposal, and its vote decides.
use Rattle.std.proofs.Common.{◌≡◌, ◌<◌, ◌+◌, ℕ, true, List, [], ◌∷◌, ◌++◌, length, Some, slice_get, refl, sym, subst}
use Rattle.std.specs.Prelude.{Contains}
use Rattle.std.specs.List.{range_with_len}
use Rattle.claims.specs.Member.{Voting}
use Rattle.claims.specs.Quorums.{Members, is_majority, with_member}
use Rattle.claims.specs.Votes.{Ballot, Reaches}
use Rattle.claims.specs.declared.claim.Claim.{Claim}
use Rattle.ballots.specs.declared.message.Message.{Message}
use Rattle.protocol.specs.Events as events
use Rattle.package_record.specs.Build.{build_text}
use Rattle.protocol.specs.State.{Value, facts_at}
use Rattle.engine.specs.Division.{Division}
use Rattle.ways_on.specs.Ways.{HoldsUnit, LeadsTo}
use Rattle.ways_on.specs.inside.Listed.{deliveries}
use Rattle.ways_on.proofs.Deciding.{decided, stage_here, stands_as}
use Rattle.ways_on.proofs.Going.{leads_on}
use Rattle.ways_on.proofs.Hearing.{HeardBy}
use Rattle.ways_on.proofs.Pieces.{pieces_heard}
use Rattle.ways_on.proofs.Reached.{IsReached}
use Rattle.ways_on.proofs.Voting.{has_voted, proposal}
use Rattle.wire.specs.Pieces.{header_with, numbers_of, piece_at}
use Rattle.wire.specs.Spelling.{datagram_text}
use Rattle.wire.specs.declared.datagram.Carrier.TheVariants as carriers
use Rattle.wire.specs.declared.datagram.Datagram.TheVariants as datagrams
use Rattle.wire.specs.declared.datagram.Piece.{Piece}
use Rattle.world.specs.Sent.{WasSent}
use Rattle.world.specs.World.{IsMade, World, WorldNode, member_at}

module _ (division : Division) (weights : List ℕ) (made : IsMade division weights) (w : World)
    (r : IsReached division weights made w) (k : ℕ) (x : WorldNode)
    (stands : slice_get w.nodes k ≡ Some x) (up : x.up ≡ true)
    (u : ℕ) (within : u < length w.division.units) (c : Claim) (v : Value)
    (count : ℕ) (numbers : numbers_of (length (build_text v)) ≡ range_with_len 0 count)
    (some : 0 < count) where
  abbrev its : Message Value
  its = proposal division weights made w r k x stands up u within c v

  -- A node that promised the claim and did not vote for it receives the proposal, and the claim's
  -- node receives its vote, which completes a majority. Then the claim's node holds the unit,
  -- unless a log is full.
  pub last_turn : (promised : (facts_at (member_at w k x) u).promised ≡ Some c)
      → (below : Reaches (facts_at (member_at w k x) u).voted c → ⊥)
      → (is_sent : WasSent w.sent its) (first : ℕ)
      → ((j : ℕ) → j < count → slice_get w.sent (first + j)
      ≡ Some (datagram_text (datagrams.Piece
      (piece_at (header_with its (carriers.Propose c) v) (build_text v) j))))
      → ((p : Piece) → Contains x.pieces p → p.header ≡ header_with its (carriers.Propose c) v → ⊥)
      → (me : ℕ) (z : WorldNode) → slice_get w.nodes me ≡ Some z → z.up ≡ true
      → (p : Ballot Value) (S : Members) → p.claim ≡ c → stage_here z u ≡ Voting p S
      → is_majority w.weights (with_member S k) ≡ true
      → LeadsTo (λ y. HoldsUnit y me u) w
      (deliveries first count k ++ events.Deliver (length w.sent) me ∷ [])
  last_turn promised below is_sent first there none me z at on p S own far enough =
      leads_on (HeardBy division weights made w r k x stands up its x.pieces)
      (λ y. HoldsUnit y me u) w (deliveries first count k)
      (events.Deliver (length w.sent) me ∷ [])
      (pieces_heard division weights made its (carriers.Propose c) v refl count numbers x.pieces
      none k is_sent.is_message first some w r x stands up is_sent there refl)
      (λ then b.
      let h = has_voted division weights made w r k x stands up u within c v promised below then
      b in
      decided division weights made w r k x stands up u within c v then h me S p own
      (stands_as division weights made w r k x stands up u within c v then h me z at on
      (Voting p S) far)
      (subst (λ l. is_majority l (with_member S k) ≡ true) (sym b.weights_are) enough))
