-- HMAC with SHA-512 (RFC 2104, section 2) on lists of bytes, truncated to 32 bytes (section 5): B
-- is 128, H is `sha512`.
use Rattle.std.specs.Prelude.{ℕ, ◌-◌, List, ◌++◌, bit_xor, if◌then◌else◌, length, map, nat_le, replicate, take}
use Rattle.sha2.specs.Sha512.{sha512}

-- the bytes, followed by zeros up to B bytes
abbrev pub with_zeros : List ℕ → List ℕ
with_zeros bytes = bytes ++ replicate (128 - length bytes) 0

-- K as B bytes: a key that is longer than B is hashed first
abbrev pub block_of : List ℕ → List ℕ
block_of key = with_zeros (if nat_le (length key) 128 then key else sha512 key)

-- each byte XOR the pad
abbrev pub xor_each : ℕ → List ℕ → List ℕ
xor_each pad bytes = map (λ b. bit_xor b pad) bytes

-- the first 32 bytes of H(K XOR opad, H(K XOR ipad, text)), for a K of B bytes
abbrev pub hmac_under : List ℕ → List ℕ → List ℕ
hmac_under k text = take 32 (sha512 (xor_each 0x5c k ++ sha512 (xor_each 0x36 k ++ text)))

-- the first 32 bytes of HMAC(K, text)
unfoldable pub hmac : List ℕ → List ℕ → List ℕ
hmac key text = hmac_under (block_of key) text
