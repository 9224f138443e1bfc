-- What is passed to a turn, and the choice that follows from it.
use Rattle.std.specs.Prelude.{ℕ, Bool, Option, Some}
use Rattle.turn_rules.specs.Choice.{Chosen, Here, IsChoice, has_answer}
use Rattle.turn_rules.specs.Pending.{Pending}
use Rattle.turn_rules.specs.declared.initiative.Initiative.{Initiative}
use Rattle.turn_rules.specs.declared.initiative.Initiative.TheVariants.{Own, Scheduled}
use Rattle.turn_rules.specs.declared.wish.Wish.{Wish}
use Rattle.datagram_ports.specs.Kept.{Arrived}
use Rattle.protocol.specs.Given.{Given}

-- what is passed to a turn
pub record Handed : Type 0 where
  -- the files made for the waiting job; `None` if they aren't made yet
  pub made : Option Given
  -- what decides what the node does if it has nothing to answer and received nothing
  pub initiative : Initiative

-- these files and this initiative
abbrev pub handed : Option Given → Initiative → Handed
handed made initiative = record { made = made; initiative = initiative }

-- All builds are there from the start, and a job without files fails. The node itself decides what
-- it does.
abbrev pub AllBuilds : Given → Handed
AllBuilds builds = handed (Some builds) Own

-- the files made so far for the waiting job, if any, and what the scheduler wishes
abbrev pub SoFar : Option Given → Option Wish → Handed
SoFar made wish = handed made (Scheduled wish)

-- whether a job is answered before anything else
abbrev pub answers_first : Handed → Here → ℕ → Bool
answers_first h here count = has_answer here count (λ k. h.made)

-- It is the choice among the nodes here, if this was received.
abbrev pub IsChoiceBy : Handed → Here → ℕ → Pending → Arrived → Chosen → Type 0
IsChoiceBy h here count p came chosen =
    IsChoice here count p (λ k. h.made) (λ k. h.initiative) came chosen
