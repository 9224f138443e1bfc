-- Received texts, sealed under a run's key or not.
use Rattle.std.specs.Prelude.{◌≡◌, ◌++◌, ℕ, Bool, true, List, [], ◌∷◌, Option, None, Some}
use Rattle.faults.specs.Bytes.{Text, is_among}
use Rattle.seals.specs.Sealed.{sealed}

-- What the nodes of a process received, and which texts weren't taken yet.
pub record InboxState : Type 0 where
  -- the run's key, if datagrams are sealed
  pub key : Option Text
  -- all received bytes that encode a text
  pub came : List Text
  -- the texts that weren't taken yet, each with the node that it is for
  pub waiting : List (ℕ × Text)

-- the bytes that encode a text in a datagram: the text itself, or the sealed text if there is a key
abbrev pub came_as : Option Text → Text → Text
came_as None text = text
came_as (Some key) text = sealed key text

-- whether the encoding of this text is among the received bytes
abbrev pub is_vouched_for : Option Text → List Text → Text → Bool
is_vouched_for key came text = is_among came (came_as key text)

-- The bytes encode this text, and are appended to those received.
pub record Takes (old new : InboxState) (bytes text : Text) : Type 0 where
  pub is : bytes ≡ came_as old.key text
  pub key : new.key ≡ old.key
  pub came : new.came ≡ old.came ++ bytes ∷ []

-- What was vouched for still is.
abbrev pub StillVouches : InboxState → InboxState → Type 0
StillVouches old new = (text : Text) → is_vouched_for old.key old.came text ≡ true
    → is_vouched_for new.key new.came text ≡ true

-- The key is unchanged, and what was vouched for still is.
pub record GoesOn (old new : InboxState) : Type 0 where
  pub key : new.key ≡ old.key
  pub vouched : StillVouches old new
