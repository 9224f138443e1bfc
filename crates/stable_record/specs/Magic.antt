-- The magic that marks a file as a log.
use Rattle.std.specs.Prelude.{◌≡◌, ℕ, Bool, ◌==◌, List, codes, drop, take}
use Rattle.std.specs.List.{list_all}

-- Whether each weight is 1.
abbrev pub are_ones : List ℕ → Bool
are_ones weights = list_all (λ weight. weight == 1) weights

-- the magic of a log whose members all have weight 1
abbrev pub plain_magic : List ℕ
plain_magic = codes "DPBLOG01"

-- the magic of all other logs
abbrev pub weighted_magic : List ℕ
weighted_magic = codes "DPBLOG02"

-- The file has this magic after its first byte.
abbrev pub HasMagic : List ℕ → List ℕ → Type 0
HasMagic magic file = take 8 (drop 1 file) ≡ magic
