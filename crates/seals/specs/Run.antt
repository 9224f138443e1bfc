-- The keys of runs.
use Rattle.std.specs.Prelude.{ℕ, List, ◌∷◌, ◌++◌, codes, length, take}
use Rattle.faults.specs.Bytes.{Text}
use Rattle.seals.specs.Hmac.{hmac}

-- what distinguishes runs with the same key: the tree's digest, the number of members, and the
-- weight of each; the 1 is the version of the datagram format
abbrev pub run_text : Text → List ℕ → Text
run_text tree weights = codes "dpbn run 1" ++ tree ++ length weights ∷ weights

-- the key that the nodes of a run seal with
abbrev pub run_key : Text → Text → List ℕ → Text
run_key key tree weights = hmac key (run_text tree weights)

-- the text whose code is shown of a key
abbrev pub key_text : Text
key_text = codes "dpbn key 1"

-- what may be shown of a key: the first half of a code that no run uses as its key
abbrev pub fingerprint : Text → Text
fingerprint key = take 16 (hmac key key_text)
