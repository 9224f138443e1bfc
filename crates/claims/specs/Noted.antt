-- What each step notes.
use Rattle.std.specs.Prelude.{◌≡◌, Option, Some, None}
use Rattle.claims.specs.Member.{Member, Stage, Closed, facts_of, noted_any}
use Rattle.claims.specs.Step.{Outcome}

-- If the value is held, no claim is open.
abbrev pub IsClosedWhereHeld : {V : Type 0} → Option V → Stage V → Type 0
IsClosedWhereHeld None s = Unit {0}
IsClosedWhereHeld (Some v) s = s ≡ Closed

-- The facts after the step are those of x with the step's note, and if the value is held then, no
-- claim is open.
pub record IsNoted (V : Type 0) (x : Member V) (o : Outcome V) : Type 0 where
  pub facts : facts_of o.member ≡ noted_any (facts_of x) o.note
  pub closed : IsClosedWhereHeld o.member.held o.member.stage
