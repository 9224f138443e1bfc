use Rattle.std.proofs.lemmas.Grind.{common_steps}
use Rattle.std.proofs.Common.{◌++◌, ◌∷◌, [], ◌∙◌, ap, subst, arith}
use Rattle.protocol.specs.Events.{event_view}
use Rattle.world.specs.Happening.{Happens}
use Rattle.simulator.specs.Effects.{Does}
use Rattle.simulator.specs.History.{History, IsHistory}
use Rattle.simulator.specs.declared.running_world.World.TheInside.{Inside}
use Rattle.simulator.specs.inside.Standing.{history_of, world_of}
use Rattle.simulator.proofs.StepHistory.{goes_so, it_happens, stays_so}
use Rattle.simulator.proofs.running_world.World.step_and_keep.Goals as goal

-- ---- taken

abbrev taken_then : goal.After-push_reserved → Inside
taken_then c = record { state = c.step.new.self; events = c.push_reserved.new.self }

-- the event happened
happens : (c : goal.After-push_reserved)
    → Happens (world_of c.self.inside.state) (event_view c.args.event)
    (world_of c.step.new.self)
happens c = it_happens (world_of c.self.inside.state) (world_of c.step.new.self)
    (event_view c.args.event) c.in-Ok.done c.in-Ok.ensures.does

led : (c : goal.After-push_reserved) → IsHistory (history_of (taken_then c))
led c = goes_so c.self.inside (taken_then c) c.args.event c.self.invariant.history
    (happens c) (c.push_reserved.ensures.items ∙ ap (λ l. l ++ c.args.event ∷ []) c.reserve.ensures.items)

pub invariant_of-self-in-Ok : goal.invariant_of-self-in-Ok
invariant_of-self-in-Ok c = record { history = led c; standing = c.step.ensures.standing }

pub returns-in-Ok-clause-history : goal.returns-in-Ok-clause-history
returns-in-Ok-clause-history c =
    (subst IsHistory c.self.view_is c.self.invariant.history, led c)

pub returns-in-Ok-clause-taken : goal.returns-in-Ok-clause-taken
returns-in-Ok-clause-taken c =
    subst (λ (h : History). Happens h.world (event_view c.args.event) (world_of c.step.new.self))
    c.self.view_is (happens c)

pub returns-in-Ok-clause-does : goal.returns-in-Ok-clause-does
returns-in-Ok-clause-does c =
    subst (λ (h : History). Does h.world (event_view c.args.event) (world_of c.step.new.self)
    c.in-Ok.done) c.self.view_is c.in-Ok.ensures.does

-- ---- refused

pub returns-in-Err-clause-history : goal.returns-in-Err-clause-history
returns-in-Err-clause-history c = (
  subst IsHistory c.self.view_is c.self.invariant.history,
  stays_so c.self.inside (record { state = c.step.new.self; events = c.reserve.new.self })
      c.self.invariant.history c.in-Err.ensures.same c.reserve.ensures.items,
)

pub returns-in-Ok-clause-kept : goal.returns-in-Ok-clause-kept
returns-in-Ok-clause-kept c = grind (arith, common_steps)
