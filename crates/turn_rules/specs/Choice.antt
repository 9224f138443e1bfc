-- A turn's choice: the first of three cases that applies.
use Rattle.std.specs.Prelude.{◌≡◌, ◌==◌, ◌&&◌, ◌||◌, ◌++◌, ℕ, Bool, false, not, List, [], ◌∷◌, Option, None, Some, drop, is_some, option_and_then, option_map, take}
use Rattle.std.specs.List.{list_any, range_with_len}
use Rattle.faults.specs.Answers.{first_given, option_or}
use Rattle.node.specs.Step.{Asked, Comes, Does}
use Rattle.datagram_ports.specs.Kept.{Arrived}
use Rattle.protocol.specs.Given.{Given}
use Rattle.protocol.specs.State.{OpenClaim, State}
use Rattle.protocol.specs.declared.input.Input.{Input}
use Rattle.turn_rules.specs.Answering.{answer_if}
use Rattle.turn_rules.specs.Own as rule
use Rattle.turn_rules.specs.Pending.{Pending, above_at, has_failed}
use Rattle.turn_rules.specs.Scheduled.{scheduled}
use Rattle.turn_rules.specs.declared.initiative.Initiative.{Initiative}
use Rattle.turn_rules.specs.declared.initiative.Initiative.TheVariants.{Own, Scheduled}

-- the members whose nodes run here and are up, by number
abbrev pub Here : Type 0
Here = ℕ → Option State

-- what is chosen, if anything: a node, and what it is asked to do
abbrev pub Chosen : Type 0
Chosen = Option (ℕ × Asked)

-- ---- (1) a job whose build is made

-- by node, the files made for its job; `None` if they aren't made yet
abbrev pub Made : Type 0
Made = ℕ → Option Given

-- these builds for each node, from the start
abbrev pub all_made : Given → Made
all_made builds k = Some builds

-- the node's answer to its job, if it is up here and there is one yet
abbrev pub answer_at : Here → Made → ℕ → Chosen
answer_at here made k =
    option_map (λ input. (k, Does input)) (option_and_then (answer_if (made k)) (here k))

-- the answer of the least node that has one, of this number of members
abbrev pub first_answer : Here → ℕ → Made → Chosen
first_answer here count made = first_given (answer_at here made) (range_with_len 0 count)

-- ---- (2) a datagram that was received

-- The node takes the received datagram if it is up here.
abbrev pub comes_to : Here → Arrived → Chosen
comes_to here None = None
comes_to here (Some d) = option_map (λ s. (d.0, Comes d.1)) (here d.0)

-- ---- (3) what nodes do on their initiative, in turn

-- by node, what decides what it does
abbrev pub Who : Type 0
Who = ℕ → Initiative

-- each node itself
abbrev pub each_own : Who
each_own k = Own

-- Whether the claim is for the unit.
abbrev pub is_for : ℕ → Option OpenClaim → Bool
is_for u None = false
is_for u (Some o) = o.unit == u

-- Whether another node has an open claim for the unit.
abbrev pub is_elsewhere : Here → ℕ → ℕ → ℕ → Bool
is_elsewhere here count k u =
    list_any (λ j. not (j == k) && is_for u (option_and_then (λ s. s.claim) (here j)))
    (range_with_len 0 count)

-- A unit is barred if a build of it failed, or another node has an open claim for it.
abbrev pub barred_at : Here → ℕ → Pending → ℕ → rule.Barred
barred_at here count p k u = has_failed p u || is_elsewhere here count k u

-- What the member does on this initiative, if anything.
abbrev pub IsDoneBy : Initiative → State → Option ℕ → rule.Barred → Option Input → Type 0
IsDoneBy Own s above barred done = rule.IsOwn s above barred done
IsDoneBy (Scheduled wish) s above barred done = done ≡ scheduled wish above s

-- What the node does on its initiative: nothing if it isn't up here.
abbrev pub IsDoneIf : Here → ℕ → Pending → Who → ℕ → Option State → Option Input → Type 0
IsDoneIf here count p who k None done = done ≡ None
IsDoneIf here count p who k (Some s) done =
    IsDoneBy (who k) s (above_at p k) (barred_at here count p k) done

-- all nodes, beginning with this one
abbrev pub in_turn : ℕ → ℕ → List ℕ
in_turn next count = drop next (range_with_len 0 count) ++ take next (range_with_len 0 count)

-- what this node does, or what is chosen later if it does nothing
abbrev pub IsDoneOr : ℕ → Option Input → Chosen → Type 0 → Type 0
IsDoneOr k None chosen later = later
IsDoneOr k (Some input) chosen later = chosen ≡ Some (k, Does input)

-- The choice is what the first of these nodes does that does anything.
abbrev pub IsFirstDone : Here → ℕ → Pending → Who → List ℕ → Chosen → Type 0
IsFirstDone here count p who [] chosen = chosen ≡ None
IsFirstDone here count p who (k ∷ ks) chosen =
    (done : Option Input) × IsDoneIf here count p who k (here k) done
    × IsDoneOr k done chosen (IsFirstDone here count p who ks chosen)

-- ---- the choice

-- what is given, or what is chosen later if nothing is
abbrev pub IsGivenOr : Chosen → Chosen → Type 0 → Type 0
IsGivenOr None chosen later = later
IsGivenOr (Some x) chosen later = chosen ≡ Some x

-- Whether a job is answered, so that nothing is received.
abbrev pub has_answer : Here → ℕ → Made → Bool
has_answer here count made = is_some (first_answer here count made)

-- The turn's choice among the nodes here, of this number of members, with these builds and
-- initiatives, if this was received:
-- 1. the answer to the job of the least node whose build is made;
-- 2. otherwise, that a node takes the received datagram;
-- 3. otherwise, what a node does on its initiative: the first that does anything, beginning with
-- `p.next`;
-- 4. otherwise nothing.
abbrev pub IsChoice : Here → ℕ → Pending → Made → Who → Arrived → Chosen → Type 0
IsChoice here count p made who came chosen =
    IsGivenOr (option_or (first_answer here count made) (comes_to here came)) chosen
    (IsFirstDone here count p who (in_turn p.next count) chosen)
