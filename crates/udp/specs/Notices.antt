-- Notices: at a member, a build of a unit failed.
use Rattle.std.specs.Prelude.{◌≡◌, ◌⊎◌, ◌++◌, ◌<◌, ◌&&◌, Bool, false, List, [], ◌∷◌, Option, None, Some, codes, nat_lt, slice_get}
use Rattle.std.specs.declared.net.socket_addr.SocketAddr.{SocketAddr}
use Rattle.byteorder.specs.Endian.{big_bytes}
use Rattle.faults.specs.Bytes.{Text, begins_with}
use Rattle.udp.specs.Inbox.{came_as, is_vouched_for}
use Rattle.udp.specs.Ways.{HasNoSeat}
use Rattle.udp.specs.declared.inbox.Came.{Came}
use Rattle.udp.specs.declared.inbox.Came.TheVariants.{Lost, Repeated, Unsealed, Waits}
use Rattle.udp.specs.declared.notice.Listing.{Listing}
use Rattle.udp.specs.declared.notice.Notice.{Notice}
use Rattle.udp.specs.declared.sockets.Seat.{Seat}

-- ---- texts

-- whether the bytes begin as a notice does
abbrev pub is_notice : Text → Bool
is_notice bytes = begins_with (codes "DPBT") bytes

-- the text of a notice about a unit of the listing with this digest: `DPBT`, the digest, the number
-- of the member that sends it, and the number of the unit in four bytes, the highest first
abbrev pub notice_text : Text → Notice → Text
notice_text digest notice = codes "DPBT" ++ (digest ++ notice.member ∷ big_bytes 4 notice.unit)

-- The text is that of the notice, which is about one of the listing's units.
abbrev pub IsNoticeOf : Listing → Text → Notice → Type 0
IsNoticeOf listing text notice =
    (text ≡ notice_text listing.digest notice) × (notice.unit < listing.units)

-- ---- received notices

-- What a port knows of notices.
pub record NoticesState : Type 0 where
  -- the run's key, if datagrams are sealed
  pub key : Option Text
  -- the listing that notices are about, if notices are sent and read
  pub listing : Option Listing
  -- all received bytes that were read as a notice
  pub came : List Text
  -- the notices that weren't taken yet, in the order in which they came
  pub waiting : List Notice

-- The bytes encode the notice, which is about one of the listing's units.
abbrev pub IsRead : NoticesState → Text → Notice → Type 0
IsRead s bytes notice = (listing : Listing) × (s.listing ≡ Some listing)
    × (bytes ≡ came_as s.key (notice_text listing.digest notice)) × (notice.unit < listing.units)

-- whether the encoding of the notice is among the received bytes, and its unit is one of the
-- listing's
abbrev pub is_heard_of : Option Text → Option Listing → List Text → Notice → Bool
is_heard_of key None came notice = false
is_heard_of key (Some listing) came notice =
    is_vouched_for key came (notice_text listing.digest notice)
    && nat_lt notice.unit listing.units

-- whether the port may hand the notice over: it received it, about its listing
abbrev pub is_heard : NoticesState → Notice → Bool
is_heard s notice = is_heard_of s.key s.listing s.came notice

-- The notice may come from this address: it is from a member whose node isn't here, and unless the
-- port is open, the address is that member's.
pub record MayNotify (seats : List Seat) (members : List SocketAddr) (is_open : Bool)
    (from : SocketAddr) (notice : Notice) : Type 0 where
  pub elsewhere : HasNoSeat seats notice.member
  pub address : SocketAddr
  pub member : slice_get members notice.member ≡ Some address
  pub known : is_open ≡ false → address ≡ from

-- What was done with bytes that begin as a notice does and came from this address:
-- - `Waits`: they encode a notice that may come from there, which was appended to the queue.
-- - `Lost`: they encode a text, and nothing changed.
-- - `Unsealed`: they encode no notice that may come from there, and nothing changed.
-- They never count as a repeated request.
abbrev pub BecameNotice : List Seat → List SocketAddr → Bool → SocketAddr → Text → NoticesState
    → NoticesState → Came → Type 0
BecameNotice seats members is_open from bytes old new Waits = (notice : Notice)
    × IsRead old bytes notice × MayNotify seats members is_open from notice
    × (new ≡ record old { came = old.came ++ bytes ∷ []; waiting = old.waiting ++ notice ∷ [] })
BecameNotice seats members is_open from bytes old new Lost =
    (new ≡ old) × ((text : Text) × (bytes ≡ came_as old.key text))
BecameNotice seats members is_open from bytes old new Unsealed = (new ≡ old)
    × (((notice : Notice) → ¬ (IsRead old bytes notice))
    ⊎ ((notice : Notice) × IsRead old bytes notice
    × ¬ (MayNotify seats members is_open from notice)))
BecameNotice seats members is_open from bytes old new Repeated = ⊥

-- Bytes and notices that came were appended, and nothing else changed.
pub record NoticesGoOn (old new : NoticesState) : Type 0 where
  pub key : new.key ≡ old.key
  pub listing : new.listing ≡ old.listing
  pub bytes : List Text
  pub came : new.came ≡ old.came ++ bytes
  pub notices : List Notice
  pub waiting : new.waiting ≡ old.waiting ++ notices
