-- The outgoing queue, and the texts handed to the system.
use Rattle.std.specs.Prelude.{◌≡◌, ◌⊎◌, ◌++◌, IsPermutation, List, [], ◌∷◌, map}
use Rattle.faults.specs.Bytes.{Text}
use Rattle.udp.specs.declared.line.Waiting.{Waiting}
use Rattle.udp.specs.declared.sockets.Way.{Way}

-- the queued texts
abbrev pub texts_of : List (Waiting Way) → List Text
texts_of waiting = map (λ w. w.bytes.items) waiting

-- The first queued text, if there is one, was handed over and left the queue.
abbrev pub HandsOver : List (Waiting Way) → List Text → List (Waiting Way) → List Text → Type 0
HandsOver [] handed new now = (new ≡ []) × (now ≡ handed)
HandsOver (w ∷ waiting) handed new now =
    (new ≡ waiting) × (now ≡ handed ++ w.bytes.items ∷ [])

-- One of the queued texts was handed over and left the queue, or nothing changed.
abbrev pub HasLeft : List (Waiting Way) → List Text → List (Waiting Way) → List Text → Type 0
HasLeft waiting handed new now =
    ((gone : Waiting Way) × IsPermutation waiting (gone ∷ new)
    × (now ≡ handed ++ gone.bytes.items ∷ []))
    ⊎ ((new ≡ waiting) × (now ≡ handed))

-- Some queued texts were handed over, each once, and the others stay queued.
abbrev pub IsLeft : List (Waiting Way) → List Text → List (Waiting Way) → List Text → Type 0
IsLeft waiting handed new now = (gone : List (Waiting Way)) × IsPermutation waiting (gone ++ new)
    × (now ≡ handed ++ texts_of gone)
