-- The text of the run file, which is next to a member's log.
use Rattle.std.specs.Prelude.{◌≡◌, ◌<◌, ◌++◌, ℕ, List, [], ◌∷◌, Option, None, Some, codes, drop, flat_map, length}
use Rattle.std.specs.Fmt.{decimal}
use Rattle.faults.specs.Bytes.{Text, comma, line_feed}
use Rattle.hex.specs.Hex.{encode_lower}
use Rattle.stable_record.specs.History.{IsBytes}
use Rattle.stable_record.specs.declared.identity.Identity.{Identity}

-- the numbers in decimal, separated by commas
abbrev pub between_commas : List ℕ → Text
between_commas numbers = drop 1 (flat_map (λ n. comma ∷ decimal n) numbers)

-- the key's fingerprint in hexadecimal, or "none" if there is no key
abbrev pub shown_key : Option Text → Text
shown_key None = codes "none"
shown_key (Some fingerprint) = encode_lower fingerprint

-- the lines for a member that owns a log, in a run whose key, if any, has this fingerprint
abbrev pub run_lines : Identity → Option Text → List Text
run_lines i key =
    codes "dpbn run 1"
    ∷ (codes "listing " ++ encode_lower i.tree)
    ∷ (codes "weights " ++ between_commas i.weights.items)
    ∷ (codes "member " ++ decimal i.me)
    ∷ (codes "key " ++ shown_key key)
    ∷ []

-- the text: these lines, each with a line feed
abbrev pub run_text : Identity → Option Text → Text
run_text i key = flat_map (λ line. line ++ line_feed ∷ []) (run_lines i key)

-- ---- which runs have the same text

-- these are bytes, of this number
pub record AreBytes (count : ℕ) (bytes : Text) : Type 0 where
  pub counted : length bytes ≡ count
  pub are_bytes : IsBytes bytes

-- a key's fingerprint has 16 bytes
abbrev pub IsShown : Option Text → Type 0
IsShown None = Unit {0}
IsShown (Some fingerprint) = AreBytes 16 fingerprint

-- the digest has 32 bytes, and the weights and the member's number are bytes
pub record IsOwner (i : Identity) : Type 0 where
  pub tree : AreBytes 32 i.tree
  pub weights : IsBytes i.weights.items
  pub me : i.me < 256

-- the same owner and the same key
pub record AreSameRun (i j : Identity) (one other : Option Text) : Type 0 where
  pub tree : i.tree ≡ j.tree
  pub weights : i.weights.items ≡ j.weights.items
  pub me : i.me ≡ j.me
  pub key : one ≡ other

-- A text determines the owner, and the key as far as its fingerprint does.
abbrev pub TellsRunsApart : Type 0
TellsRunsApart =
    (i j : Identity) (key other : Option Text) → IsOwner i → IsOwner j → IsShown key
    → IsShown other → run_text i key ≡ run_text j other → AreSameRun i j key other
