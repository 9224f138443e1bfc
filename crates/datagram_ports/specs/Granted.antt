-- What may be sent through a port.
use Rattle.std.specs.Prelude.{◌≡◌, ◌++◌, List, ◌∷◌}
use Rattle.faults.specs.Bytes.{Text}
use Rattle.datagram_ports.specs.Calls.{Call}

-- The text is one of those that were granted.
abbrev pub IsGranted : List Text → Text → Type 0
IsGranted granted text =
    (before : List Text) × ((after : List Text) × (granted ≡ before ++ text ∷ after))

-- Whatever a call does to the port now, it would have done to it before.
abbrev pub DoesAsBefore : {P : Type 0} → (P → Call → P → Type 0) → P → P → Type 0
DoesAsBefore does old new = (call : Call) (after : _) → does new call after → does old call after
