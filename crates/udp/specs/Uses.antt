-- What a port is used for, notices included.
use Rattle.std.specs.Prelude.{◌≡◌, ◌++◌, ◌<◌, ◌^◌, IsPermutation, List, [], ◌∷◌, Option, None, Some, length, option_to_list}
use Rattle.std.specs.List.{AllByRecursion}
use Rattle.faults.specs.Bytes.{Text}
use Rattle.datagram_ports.specs.Calls.{Call}
use Rattle.udp.specs.Calls.{AreSentAway, DoesOverUdp, IsSamePort, out_of}
use Rattle.udp.specs.Inbox.{came_as}
use Rattle.udp.specs.Notices.{notice_text}
use Rattle.udp.specs.Notifying.{HasNotified, Notifies}
use Rattle.udp.specs.declared.notice.Listing.{Listing}
use Rattle.udp.specs.declared.notice.Notice.{Notice}
use Rattle.udp.specs.declared.sockets.Seat.{Seat}
use Rattle.udp.specs.declared.udp_port.UdpPort.{UdpPort}

-- A use of a port: a call, a notice that is sent, or one that is taken, if there is one.
pub data Use : Type 0 where
  Called : Call → Use
  Notified : Notice → Use
  Took : Option Notice → Use

-- The notice was sent, and nothing else happened.
pub record SendsNotice {C : Type 0} (old : UdpPort C) (notice : Notice) (new : UdpPort C) : Type 0
  where
    pub sent : Notifies old notice new
    pub only : HasNotified old new

-- The first notice was taken, if there was one, and nothing else happened.
pub record TakesNotice {C : Type 0} (old : UdpPort C) (answer : Option Notice) (new : UdpPort C)
    : Type 0 where
  pub first : old.notices.waiting ≡ option_to_list answer ++ new.notices.waiting
  pub only : HasNotified old new
  pub leaving : new.leaving.waiting.items ≡ old.leaving.waiting.items

-- what a use does to the port
abbrev pub DoesByUse : {C : Type 0} → UdpPort C → Use → UdpPort C → Type 0
DoesByUse old (Called call) new = DoesOverUdp old call new
DoesByUse old (Notified notice) new = SendsNotice old notice new
DoesByUse old (Took answer) new = TakesNotice old answer new

-- These uses lead, in order, from one state of the port to the other.
abbrev pub WentThroughUses : {C : Type 0} → UdpPort C → List Use → UdpPort C → Type 0
WentThroughUses old [] new = new ≡ old
WentThroughUses old (one ∷ uses) new = (between : UdpPort _)
    × DoesByUse old one between × WentThroughUses between uses new

-- the text is the notice's, as it leaves under the key
abbrev pub IsTextOf : Option Text → Option Listing → Notice → Text → Type 0
IsTextOf key None notice text = ⊥
IsTextOf key (Some listing) notice text = text ≡ came_as key (notice_text listing.digest notice)

-- A use sends these texts away: a call those that it sends by itself; a notice that is sent its
-- text, any number of times; and a notice that is taken none.
abbrev pub SendsAway : List Seat → Option Text → Option Listing → Use → List Text → Type 0
SendsAway seats key listing (Called call) texts = AreSentAway seats key (call ∷ []) texts
SendsAway seats key listing (Notified notice) texts =
    AllByRecursion (IsTextOf key listing notice) texts
SendsAway seats key listing (Took answer) texts = texts ≡ []

-- The uses send these texts away, in order, and nothing else.
abbrev pub UsesSend : List Seat → Option Text → Option Listing → List Use → List Text → Type 0
UsesSend seats key listing [] texts = texts ≡ []
UsesSend seats key listing (one ∷ uses) texts = (first : List Text) × (more : List Text)
    × SendsAway seats key listing one first × (texts ≡ first ++ more)
    × UsesSend seats key listing uses more

-- Nothing leaves the port except what the uses send. The port is the same, and the texts handed
-- over or queued are those from before and those that the uses send away, each once.
pub record LeavesByUse {C : Type 0} (old : UdpPort C) (uses : List Use) (new : UdpPort C) : Type 0
  where
    pub same : IsSamePort old new
    pub texts : List Text
    pub sent : UsesSend old.seats.items old.outbox.key old.notices.listing uses texts
    pub out : IsPermutation (out_of old ++ texts) (out_of new)

-- Law: this holds of any port that was used so.
abbrev pub UsesLeaveWhatIsSent : Type 0 → Type 0
UsesLeaveWhatIsSent C = (old new : UdpPort C) (uses : List Use) → WentThroughUses old uses new
    → LeavesByUse old uses new

-- a notice about a listing, of which code can have made these values
pub record IsMade (listing : Listing) (notice : Notice) : Type 0 where
  pub digest : length listing.digest ≡ 32
  pub unit : notice.unit < 2 ^ 32

-- Law: the bytes that encode a notice under a key encode no other notice under it, and none about a
-- listing with another digest. So a port reads a notice that another one sends, if both have the
-- same key, only as that notice, and only if both have the same listing.
abbrev pub NoticesAreReadAsSent : Type 0
NoticesAreReadAsSent = (key : Option Text) (listing other : Listing) (sent read : Notice)
    → IsMade listing sent → IsMade other read
    → came_as key (notice_text listing.digest sent) ≡ came_as key (notice_text other.digest read)
    → (listing.digest ≡ other.digest) × (sent ≡ read)
