-- Pasts, for code that opens a file and must give its past.
use Rattle.std.specs.Prelude.{◌≡◌, ℕ, Bool, false, List, [], ◌∷◌, length, get_or, refl}
use Rattle.stable_record.specs.Crash.{CutOrNot, MayLeave, Torn}
use Rattle.stable_record.specs.Events.{Event, Past, half_cut, half_written}
use Rattle.stable_record.specs.History.{Bytes, History, found, seen}

-- these calls; a call that fails later leaves the file unchanged
abbrev pub past_of : (calls : History) → MayLeave calls (seen calls) → Past
past_of calls possible = record { calls = calls; possible = possible; torn = []; done = [] }

-- no calls at all
abbrev pub no_past : Past
no_past = past_of [] refl

-- the file has these bytes, and nothing is known about what a crash leaves of it
abbrev pub just_found : Bytes → Past
just_found file = past_of (found file.list ∷ []) file.are_bytes

-- Whatever a torn write leaves, some past predicts it: one that has the bytes of its range for that
-- call.
abbrev pub TornWritesAreForetold : Type 0
TornWritesAreForetold =
    (past : Past) (es : List Event) (at count : ℕ) (old new : List ℕ) (torn : Torn at count old new)
    → get_or past.torn (length es) [] ≡ torn.middle → half_written past es at count old ≡ new

-- Whether or not a failed cut was done, some past predicts it for that call.
abbrev pub TornCutsAreForetold : Type 0
TornCutsAreForetold =
    (len : ℕ) (old new : List ℕ) → CutOrNot len old new
    → (was_done : Bool) × ((past : Past) (es : List Event)
    → get_or past.done (length es) false ≡ was_done → half_cut past es len old ≡ new)
