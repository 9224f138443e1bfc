-- What nays say about an open claim.
use Rattle.std.specs.Prelude.{ℕ, max, Option, None, Some, Result, Ok, Err, unwrap_or, if◌then◌else◌}
use Rattle.std.specs.Str.{bytes_eq}
use Rattle.claims.specs.Claims.{claim_below, claim_same}
use Rattle.claims.specs.declared.claim.Claim.{Claim}
use Rattle.ballots.specs.declared.message.Body.{Body}
use Rattle.ballots.specs.declared.message.Body.TheVariants.{Nay}
use Rattle.faults.specs.Bytes.{Text}
use Rattle.protocol.specs.Member.{claim_in}
use Rattle.protocol.specs.State.{OpenClaim, State, Value, name_at}
use Rattle.wire.specs.Reading.{datagram_of}
use Rattle.wire.specs.declared.WireFault.{WireFault}
use Rattle.wire.specs.declared.datagram.Datagram.{Datagram}
use Rattle.wire.specs.declared.datagram.Datagram.TheVariants as datagram

-- the claim that blocks this one, if the body is a nay to it
abbrev pub in_the_way : Claim → Body Value → Option Claim
in_the_way c (Nay d promised) = if claim_same d c then Some promised else None
in_the_way c _ = None

-- the claim that blocks this one for the named unit, if the bytes are such a message
abbrev pub nay_in : Text → Claim → Result Datagram WireFault → Option Claim
nay_in name c (Err f) = None
nay_in name c (Ok (datagram.Piece p)) = None
nay_in name c (Ok (datagram.Whole m)) =
    if bytes_eq m.path name then in_the_way c m.body else None

-- The greatest round of the greater claims that block this one, with one more claim. (A claim that
-- isn't greater has no greater round.)
abbrev pub with_nay : Claim → Option ℕ → Option Claim → Option ℕ
with_nay c above None = above
with_nay c above (Some promised) =
    if claim_below c promised then Some (max (unwrap_or above 0) promised.round) else above

-- that round for the member's open claim, after these bytes were received
abbrev pub above_after : State → Option OpenClaim → Option ℕ → Text → Option ℕ
above_after s None above text = above
above_after s (Some o) above text =
    with_nay (claim_in o.progress) above
    (nay_in (name_at s o.unit) (claim_in o.progress) (datagram_of text))
