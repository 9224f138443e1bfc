-- How the result of a parser relates to what it has to parse.
use Rattle.std.proofs.Common.{◌≡◌, Option, None}
use Rattle.traces.specs.declared.read_error.ReadError.{ReadError}
use Rattle.traces.specs.declared.read_error.ReadError.TheVariants.{Memory, Bad}
use Rattle.traces.specs.inside.Given.{Fails}

-- if the part can't be parsed, the whole can't
pub fails_along : {A B : Type 0} (e : ReadError) (o : Option A) (q : Option B) → (o ≡ None → q ≡ None) → Fails e o → Fails e q
fails_along Memory o q along none = tt
fails_along Bad o q along none = along none
