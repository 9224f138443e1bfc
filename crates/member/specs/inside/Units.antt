-- How the engine learns that a unit is held.
use Rattle.std.specs.Prelude.{ℕ, Bool, true, false, List, fold}
use Rattle.std.specs.FinSet as set
use Rattle.std.specs.Ordering.{nat_cmp}
use Rattle.engine.specs.State as engine
use Rattle.ballots.specs.declared.message.Fact.{Fact}
use Rattle.ballots.specs.declared.message.Fact.TheVariants.{Opened, Promised, Voted, Held}
use Rattle.protocol.specs.State.{Value}

-- Whether the fact is that a build is held.
abbrev pub is_held_fact : Fact Value → Bool
is_held_fact (Opened round) = false
is_held_fact (Promised c) = false
is_held_fact (Voted c v) = false
is_held_fact (Held v) = true

-- the set with these elements added
abbrev pub with_all : set.FinSet nat_cmp → List ℕ → set.FinSet nat_cmp
with_all s ps = fold (λ t p. set.insert t p) s ps

-- the engine after these packages are agreed
abbrev pub agreed_too : engine.State → List ℕ → engine.State
agreed_too e ps = record e { agreed = with_all e.agreed ps }
