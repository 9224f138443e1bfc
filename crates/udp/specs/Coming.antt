-- What is received from a socket.
use Rattle.std.specs.Prelude.{◌≡◌, ◌≢◌, ◌++◌, ◌⊎◌, ℕ, Bool, true, List, [], ◌∷◌, map}
use Rattle.std.specs.List.{Contains}
use Rattle.std.specs.declared.net.socket_addr.SocketAddr.{SocketAddr}
use Rattle.faults.specs.Bytes.{Text}
use Rattle.udp.specs.Inbox.{InboxState, Takes, came_as}
use Rattle.udp.specs.declared.inbox.Came.{Came}
use Rattle.udp.specs.declared.inbox.Came.TheVariants.{Lost, Repeated, Unsealed, Waits}

-- These texts were appended to the queue, for this node.
abbrev pub HasCome : ℕ → InboxState → InboxState → Type 0
HasCome node old new = (texts : List Text)
    × (new.waiting ≡ old.waiting ++ map (λ text. (node, text)) texts)

-- The text that the bytes encode was appended to the queue, for this node; or the queue is
-- unchanged.
abbrev pub IsHeardOrLost : ℕ → Text → InboxState → InboxState → Type 0
IsHeardOrLost node bytes old new =
    ((text : Text) × (bytes ≡ came_as old.key text)
    × (new.waiting ≡ old.waiting ++ (node, text) ∷ []))
    ⊎ (new.waiting ≡ old.waiting)

-- What was done with bytes that came for the node:
-- - `Waits`: they encode a text, which was appended to the queue.
-- - `Lost`: they encode a text, and there was no room for it.
-- - `Unsealed`: they encode no text, and nothing changed.
-- - `Repeated`: they may be dropped, and nothing changed.
abbrev pub Became : ℕ → Text → Bool → InboxState → InboxState → Came → Type 0
Became node bytes may_drop old new Waits = (text : Text) × Takes old new bytes text
    × (new.waiting ≡ old.waiting ++ (node, text) ∷ [])
Became node bytes may_drop old new Lost = (text : Text) × Takes old new bytes text
    × (new.waiting ≡ old.waiting)
Became node bytes may_drop old new Unsealed =
    (new ≡ old) × ((text : Text) → bytes ≢ came_as old.key text)
Became node bytes may_drop old new Repeated = (may_drop ≡ true) × (new ≡ old)

-- no member has this address
abbrev pub IsStrange : List SocketAddr → SocketAddr → Type 0
IsStrange members from = ¬ (Contains members from)
