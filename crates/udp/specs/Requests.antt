-- Repeated requests.
use Rattle.std.specs.Prelude.{ℕ, Bool, false, ◌&&◌, ◌==◌, ◌+◌, ◌-◌, ◌%◌, List, Option, None, Some, if◌then◌else◌, nat_lt, set}
use Rattle.std.specs.List.{list_any}
use Rattle.std.specs.Str.{bytes_eq}
use Rattle.std.specs.Time.{instant_nanos}
use Rattle.std.specs.declared.time.Instant.{Instant}
use Rattle.faults.specs.Bytes.{Text, begins_with}
use Rattle.sha2.specs.Sha256.{sha256}
use Rattle.udp.specs.declared.inbox.Came.{Came}
use Rattle.udp.specs.declared.inbox.Came.TheVariants.{Lost, Repeated, Unsealed, Waits}
use Rattle.udp.specs.declared.requests.Request.{Request}

-- whether the bytes begin as a request does, if it is known how that is
abbrev pub is_request : Option Text → Text → Bool
is_request None bytes = false
is_request (Some front) bytes = begins_with front bytes

-- the bytes as a request, received from the member's address for the node: if they begin as one and
-- the time is known
abbrev pub request_in : Option Text → Option Instant → ℕ → ℕ → Text → Option Request
request_in front None node member bytes = None
request_in front (Some now) node member bytes =
    if is_request front bytes
    then Some (record { node = node; member = member; at = now; digest = sha256 bytes })
    else None

-- whether a request repeats a known one: the same member, the same node, the same digest, and less
-- than 0.9 seconds later
abbrev pub is_again : Request → Option Request → Bool
is_again request None = false
is_again request (Some known) =
    (known.node == request.node) && ((known.member == request.member)
    && (bytes_eq known.digest request.digest
    && nat_lt (instant_nanos request.at - instant_nanos known.at) 900000000))

-- whether the received bytes are a repeated request
abbrev pub is_repeat : Option Request → List (Option Request) → Bool
is_repeat None known = false
is_repeat (Some request) known = list_any (is_again request) known

-- the next place in a ring of 512
abbrev pub behind : ℕ → ℕ
behind place = (place + 1) % 512

-- the known requests after this was done with the received bytes: a request that was queued is
-- noted
abbrev pub known_after : Came → Option Request → ℕ → List (Option Request) → List (Option Request)
known_after Waits None next known = known
known_after Waits (Some request) next known = set known next (Some request)
known_after Lost request next known = known
known_after Unsealed request next known = known
known_after Repeated request next known = known
