-- What a member's notes restore.
use Rattle.std.specs.Prelude.{◌≡◌, ℕ, List, All, fold, None, Some}
use Rattle.ballots.specs.declared.message.Note.{Note}
use Rattle.engine.specs.Division.{Division, number_named}
use Rattle.protocol.specs.State.{State, Value, facts_then}

-- the member after these notes, oldest first; no claim is open then
abbrev pub restored : State → List (Note Value) → State
restored s notes = record s
    { facts = fold (λ facts n. facts_then s.division facts (Some n)) s.facts notes; claim = None }

-- Each note is about a unit, by its name.
abbrev pub AreOnUnits : Division → List (Note Value) → Type 0
AreOnUnits d notes = All (λ n. (u : ℕ) × (number_named d n.path ≡ Some u)) notes
