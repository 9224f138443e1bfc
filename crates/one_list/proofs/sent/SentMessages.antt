-- In a world that matches, each datagram that was sent belongs to a message of which all datagrams
-- were sent.
use Rattle.std.proofs.Common.{◌≡◌, zero, suc, List, [], ◌∷◌, refl, sym, arith}
use Rattle.std.specs.Prelude.{Contains, map}
use Rattle.claims.specs.AgreedList.{Cluster}
use Rattle.protocol.specs.State.{Value}
use Rattle.wire.specs.Pieces.{split_of}
use Rattle.wire.specs.Spelling.{datagram_text}
use Rattle.one_list.specs.Matches.{Matches}
use Rattle.one_list.specs.Safety.{EachIsOfAMessage}
use Rattle.world.specs.World.{World}

-- an element of the image of a list is the image of an element
pub has_preimage : {X Y : Type 0} (f : X → Y) (xs : List X) (y : Y) → Contains (map f xs) y
    → (x : X) × Contains xs x × (y ≡ f x)
has_preimage f [] y (k, within, here) = absurd (omega arith)
has_preimage f (x ∷ xs) y (zero, within, here) = (x, (zero, omega arith, refl), sym here)
has_preimage f (x ∷ xs) y (suc k, within, here) =
    let r = has_preimage f xs y (k, omega arith, here) in (
      r.0,
      (suc r.1.0, omega (arith, r.1.1), r.1.2),
      r.2,
    )

-- so each datagram belongs to a message that was sent
pub each_is_of_a_message : (w : World) (c : Cluster Value) → Matches w c → EachIsOfAMessage w
each_is_of_a_message w c m text h =
    let s = m.sent text h in
    (s.message, s.went_out, has_preimage datagram_text (split_of s.message) text s.datagram)
