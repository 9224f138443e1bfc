-- The lines of events that `dpbr run --events` prints.
use Rattle.std.specs.Prelude.{◌≡◌, ◌++◌, ◌+◌, ℕ, List, [], ◌∷◌, Option, None, Some, codes, drop, flat_map, length, position, unwrap_or}
use Rattle.std.specs.Fmt.{decimal}
use Rattle.std.specs.Str.{bytes_eq}
use Rattle.faults.specs.Bytes.{Text, blank, line_feed}
use Rattle.node.specs.Parcels.{parcels_to}
use Rattle.package_record.specs.Content.{Content}
use Rattle.protocol.specs.Events.{Event, node_of}
use Rattle.simulator.specs.Effects.{Does}
use Rattle.simulator.specs.declared.event_effects.EventEffects.{EventEffects}
use Rattle.simulator.specs.declared.event_effects.MessageKind.{MessageKind}
use Rattle.simulator.specs.declared.event_effects.MessageKind.TheVariants as message
use Rattle.simulator.specs.declared.event_effects.NoteKind.{NoteKind}
use Rattle.simulator.specs.declared.event_effects.NoteKind.TheVariants as note
use Rattle.world.specs.World.{World}

-- ---- words

-- the word for a note of this kind
abbrev pub note_word : NoteKind → Text
note_word note.Opened = codes "opened"
note_word note.Promised = codes "promised"
note_word note.Voted = codes "voted"
note_word note.Held = codes "held"

-- the word for a message of this kind
abbrev pub message_word : MessageKind → Text
message_word message.Offer = codes "offer"
message_word message.Promise = codes "promise"
message_word message.Propose = codes "propose"
message_word message.Vote = codes "vote"
message_word message.Agreed = codes "agreed"
message_word message.Ask = codes "ask"
message_word message.Nay = codes "nay"

-- ---- parts of a line

-- what was added to the log, if anything was
abbrev pub noted_part : Option NoteKind → Text
noted_part None = []
noted_part (Some kind) = codes " noted " ++ note_word kind

-- The number of a datagram: how many different ones were sent before it. (Each one that an event
-- sends is among those that were sent after it.)
abbrev pub number_of : List Text → Text → ℕ
number_of sent text = unwrap_or (position (bytes_eq text) sent) 0

-- a member that a datagram was sent to
abbrev pub receiver_part : ℕ → Text
receiver_part member = blank ∷ decimal member

-- a datagram of a message of this kind, and to whom it was sent, as a text
abbrev pub datagram_part : List Text → MessageKind → Text → Text → Text
datagram_part sent kind members text =
    codes " sent " ++ decimal (number_of sent text) ++ codes " " ++ message_word kind ++ codes " to"
    ++ members

-- These datagrams, each with its receiver, were sent: each receiver was sent the same ones. The
-- text has a part for each of those, with all receivers.
pub record AreSentAs (sent : List Text) (kind : MessageKind) (sends : List (ℕ × Text))
    (text : Text) : Type 0 where
  pub receivers : List ℕ
  pub datagrams : List Text
  pub all_to_each : sends ≡ parcels_to receivers datagrams
  pub text_is : text
      ≡ flat_map (datagram_part sent kind (flat_map receiver_part receivers)) datagrams

-- The text says what was sent, if a message was.
abbrev pub IsSentText : List Text → Option MessageKind → List (ℕ × Text) → Text → Type 0
IsSentText sent None sends text = text ≡ []
IsSentText sent (Some kind) sends text = AreSentAs sent kind sends text

-- a package that became agreed
abbrev pub agreed_part : Content → Text
agreed_part r = codes " agreed " ++ r.path

-- the line of the event of this number at this node, with what was sent as a text, and the packages
-- that became agreed
abbrev pub event_line : ℕ → ℕ → Option NoteKind → Text → List Content → Text
event_line number node noted sent packages =
    codes "event " ++ decimal number ++ codes " node " ++ decimal node ++ noted_part noted ++ sent
    ++ flat_map agreed_part packages ++ line_feed ∷ []

-- ---- lines

-- The line says what the event of this number does in the first world. The event leaves the other
-- world: datagrams have their numbers there, and the list grows up to the one there.
pub record IsEventLine (w : World) (number : ℕ) (e : Event) (w' : World) (line : Text) :
    Type 0 where
  pub done : EventEffects
  pub does : Does w e w' done
  pub sent : Text
  pub sent_is : IsSentText w'.sent done.message done.sends sent
  pub line_is : line
      ≡ event_line number (node_of e) done.noted sent (drop (length w.agreed) w'.agreed)

-- The events, one after another, lead from the first world to the last. The text has their lines,
-- which are numbered from this number on.
abbrev pub HasEventLines : World → ℕ → List Event → World → Text → Type 0
HasEventLines w number [] w' text = (w' ≡ w) × (text ≡ [])
HasEventLines w number (e ∷ es) w' text =
    (v : World) × (line : Text) × (rest : Text) × IsEventLine w number e v line
    × HasEventLines v (number + 1) es w' rest × (text ≡ line ++ rest)
