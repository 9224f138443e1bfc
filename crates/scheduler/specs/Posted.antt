-- Lists of what is to be built.
use Rattle.std.specs.Prelude.{◌==◌, ◌++◌, ◌∷◌, ℕ, Bool, not, [], List, filter, if◌then◌else◌}
use Rattle.std.specs.List.{list_any}
use Rattle.faults.specs.Bytes.{Text}
use Rattle.protocol.specs.State.{State, is_held}
use Rattle.scheduler.specs.declared.posted.Posted.{Posted}

-- Whether the unit is among these.
abbrev pub has_unit : List Posted → ℕ → Bool
has_unit posted u = list_any (λ p. p.unit == u) posted

-- these, and the unit under this name, if it was not among them
abbrev pub with_unit : List Posted → ℕ → Text → List Posted
with_unit posted u name =
    if has_unit posted u then posted else posted ++ record { unit = u; name = name } ∷ []

-- those of these whose units are not held
abbrev pub not_held : State → List Posted → List Posted
not_held s posted = filter (λ p. not (is_held s p.unit)) posted
