-- The length of a way.
use Rattle.std.specs.Prelude.{◌≡◌, ◌⊎◌, ◌≤◌, ◌+◌, ◌*◌, ℕ, List, Some, length}
use Rattle.claims.specs.Votes.{Ballot}
use Rattle.ballots.specs.declared.message.Message.{Message}
use Rattle.protocol.specs.Events.{Event}
use Rattle.package_record.specs.Build.{build_text}
use Rattle.protocol.specs.Given.{Given}
use Rattle.protocol.specs.State.{State, Value}
use Rattle.ways_on.specs.Asked.{next_build}
use Rattle.ways_on.specs.Rounds.{seen_at}
use Rattle.wire.specs.Pieces.{numbers_of, split_of}
use Rattle.world.specs.Happening.{Leads}
use Rattle.world.specs.Sent.{WasSent}
use Rattle.world.specs.World.{World}

-- A message of `count` datagrams was sent in the later world, but not before.
pub record SentOne (w later : World) (count : ℕ) : Type 0 where
  pub message : Message Value
  pub then : WasSent later.sent message
  pub before : WasSent w.sent message → ⊥
  pub datagrams : length (split_of message) ≡ count

-- the number of datagrams of a build
abbrev pub pieces_in : Value → ℕ
pieces_in build = length (numbers_of (length (build_text build)))

-- A message on the way of member s may carry this build: it is what the files make, or what a node
-- that is up last voted for.
abbrev pub MayCarry : World → State → ℕ → ℕ → Given → Value → Type 0
MayCarry w s u host given build =
    (build ≡ next_build w s u host given)
    ⊎ ((j : ℕ) × (b : Ballot Value) × ((seen_at w u j).voted ≡ Some b) × (build ≡ b.value))

-- One message may take this number of datagrams: one, or those of a build that may be carried.
abbrev pub MayTake : World → State → ℕ → ℕ → Given → ℕ → Type 0
MayTake w s u host given count =
    (count ≡ 1)
    ⊎ ((build : Value) × MayCarry w s u host given build × (count ≡ pieces_in build))

-- The events by which member s obtains the unit are at most two, plus two for each member, plus two
-- for each member and each datagram of one message. If no event is refused, that message is sent on
-- the way; in any case it is one that may be sent.
pub record IsShort (w : World) (s : State) (u host : ℕ) (given : Given)
    (events : List Event) : Type 0 where
  pub most : ℕ
  pub few : length events ≤ 2 + 2 * length w.nodes + 2 * (length w.nodes * most)
  pub sent : (v : World) → Leads w events v → SentOne w v most
  pub may_take : MayTake w s u host given most
