-- The length of codes.
use Rattle.std.proofs.Common.{◌≡◌, ℕ, List, length, lit≤}
use Rattle.std.proofs.lemmas.List.{length-take-le}
use Rattle.sha2.proofs.Facts512.{length-sha512}
use Rattle.seals.specs.Hmac.{hmac}

-- a code has 32 bytes
pub length-hmac : (key text : List ℕ) → length (hmac key text) ≡ 32
unfolding hmac
length-hmac key text = length-take-le _ _ (rw length-sha512 (lit≤ tt))
