-- How contracts see a member's fields.
use Rattle.std.specs.Prelude.{◌≡◌, List, [], Option, None, map, option_and_then, option_map}
use Rattle.std.specs.Option.{ForSome}
use Rattle.claims.specs.Member.{Facts}
use Rattle.claims.specs.Votes.{report_of}
use Rattle.claims.specs.Job.{Task}
use Rattle.engine.specs.State as engine
use Rattle.engine.specs.Division.{Division}
use Rattle.protocol.specs.State.{State, Value, engine_of}
use Rattle.protocol.specs.Answers.{tree_digest}
use Rattle.protocol.specs.Member.{IsMember}
use Rattle.protocol.specs.Step.{job_again}
use Rattle.member.specs.OpenClaims.{IsWeighedBy, open_of}
use Rattle.member.specs.declared.known.Known.{Known}
use Rattle.member.specs.declared.member.Member.TheInside.{Inside}

-- what the member knows of a unit
abbrev pub facts_of_known : Known → Facts Value
facts_of_known k = record {
  opened = k.opened;
  promised = k.voter.promised;
  voted = report_of k.voter.voted;
  held = k.held;
}

-- the state of the member with these fields
abbrev pub state_of : Inside → State
state_of m = record {
  division = m.units;
  weights = m.weights;
  me = m.me;
  facts = map facts_of_known m.known.items;
  claim = option_map open_of m.claim;
}

-- the job of the open claim, while it waits for a build
abbrev pub job_in : State → Option Task
job_in s = option_and_then (λ o. job_again s o o.progress) s.claim

-- The engine has exactly what is held as agreed, the open claim has the member's weights, the
-- stored job is that of the open claim, and the stored digest is that of the tree.
pub record IsKept (m : Inside) : Type 0 where
  pub member : IsMember (state_of m)
  pub tree : m.tree.now ≡ m.units.tree
  pub digest : m.digest ≡ tree_digest m.units.tree
  pub engine : m.engine ≡ engine_of (state_of m)
  pub weighed : ForSome m.claim (λ o. IsWeighedBy m.weights o.claimer)
  pub job : m.job ≡ job_in (state_of m)

-- the engine in which exactly the units that these facts hold are agreed
abbrev pub engine_with : Division → List (Facts Value) → engine.State
engine_with d facts =
    engine_of (record { division = d; weights = []; me = 0; facts = facts; claim = None })
