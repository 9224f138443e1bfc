-- The choice of a cluster's turn, which has all builds from its start, and in which each node acts
-- on its own initiative.
use Rattle.std.specs.Prelude.{ℕ, Bool, List, Option}
use Rattle.datagram_ports.specs.Kept.{Arrived}
use Rattle.protocol.specs.Given.{Given}
use Rattle.protocol.specs.State.{State}
use Rattle.protocol.specs.declared.input.Input.{Input}
use Rattle.turn_rules.specs.Choice.{Chosen, Here, IsChoice, IsDoneIf, IsFirstDone, all_made, answer_at, each_own, first_answer, has_answer}
use Rattle.turn_rules.specs.Pending.{Pending}

-- the node's answer to its job, if it has one
abbrev pub job_at : Here → Given → ℕ → Chosen
job_at here builds k = answer_at here (all_made builds) k

-- the answer of the least node that has one, of this number of members
abbrev pub first_job : Here → ℕ → Given → Chosen
first_job here count builds = first_answer here count (all_made builds)

-- Whether a job waits for its answer, so that nothing is received.
abbrev pub has_job : Here → ℕ → Given → Bool
has_job here count builds = has_answer here count (all_made builds)

-- What the node does on its own initiative: nothing if it isn't up here.
abbrev pub IsOwnIf : Here → ℕ → Pending → ℕ → Option State → Option Input → Type 0
IsOwnIf here count p k o own = IsDoneIf here count p each_own k o own

-- The choice is what the first of these nodes does that does anything.
abbrev pub IsFirstOwn : Here → ℕ → Pending → List ℕ → Chosen → Type 0
IsFirstOwn here count p ks chosen = IsFirstDone here count p each_own ks chosen

-- It is the turn's choice, if this was received.
abbrev pub IsChoiceWith : Here → ℕ → Pending → Given → Arrived → Chosen → Type 0
IsChoiceWith here count p builds came chosen =
    IsChoice here count p (all_made builds) each_own came chosen
