-- What it means that a message was sent.
use Rattle.std.specs.Prelude.{◌≡◌, ◌++◌, ℕ, true, List, [], ◌∷◌, fold, map, if◌then◌else◌}
use Rattle.std.specs.List.{list_all}
use Rattle.faults.specs.Bytes.{Text, is_among}
use Rattle.claims.specs.declared.claim.Claim.{Claim}
use Rattle.claims.specs.Quorums.{Members}
use Rattle.ballots.specs.declared.message.Body.{Body}
use Rattle.ballots.specs.declared.message.Body.TheVariants.{Promise, Propose, Vote}
use Rattle.ballots.specs.declared.message.Message.{Message}
use Rattle.protocol.specs.State.{Value}
use Rattle.protocol.specs.Answers.{tree_digest}
use Rattle.protocol.specs.declared.sends.Send.{Send}
use Rattle.node.specs.Parcels.{datagrams_of, datagrams_to}
use Rattle.node.specs.Messages.{IsMessage}
use Rattle.world.specs.World.{World}
use Rattle.std.specs.Prelude.{Option}

-- A message was sent if all its datagrams were. (Numbers that are out of range would share their
-- bytes with others.)
pub record WasSent (sent : List Text) (m : Message Value) : Type 0 where
  pub is_message : IsMessage m
  pub went_out : list_all (is_among sent) (datagrams_of m) ≡ true

-- the datagrams with one more; one that was sent before keeps its number
abbrev pub with_datagram : List Text → Text → List Text
with_datagram sent d = if is_among sent d then sent else sent ++ d ∷ []

-- the datagrams sent, in order of first sending, after these sends
abbrev pub with_sends : List Text → List Send → List Text
with_sends sent sends = fold with_datagram sent (map (λ s. s.1) (datagrams_to sends))

-- what a member of the world says about the unit with this name
abbrev pub message : World → Text → ℕ → Body Value → Message Value
message w name m body =
    record { sender = m; tree = tree_digest w.division.tree; path = name; body = body }

-- the members that sent a vote for the claim of the unit with this name
abbrev pub voters : World → List Text → Text → Claim → Members
voters w sent name c m = list_all (is_among sent) (datagrams_of (message w name m (Vote c)))

-- The build was proposed for the unit with this name, under the claim.
abbrev pub WasProposed : World → List Text → Text → Claim → Value → Type 0
WasProposed w sent name c build = (m : ℕ) × WasSent sent (message w name m (Propose c build))

-- The member promised the claim of the unit with this name, with this report.
abbrev pub WasPromised : World → List Text → Text → ℕ → Claim → Option (Claim × Value) → Type 0
WasPromised w sent name m c report = WasSent sent (message w name m (Promise c report))
