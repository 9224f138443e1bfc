use Rattle.std.proofs.Common.{◌≡◌, ◌++◌, ◌∙◌, ℕ, List, ap, append_assoc, subst, sym}
use Rattle.protocol.specs.Events.{event_view}
use Rattle.simulator.specs.History.{taken}
use Rattle.engine.specs.Division.{Division}
use Rattle.world.specs.Happening.{Leads}
use Rattle.world.specs.Headline.{HoldAlike}
use Rattle.world.specs.World.{World, start}
use Rattle.check_worlds.proofs.Knowing.{more_taken}
use Rattle.check_worlds.proofs.steps.take_two_alike.Goals as goal

pub returns : goal.returns
returns c =
    let old = c.args.world.now in
    let mid = c.step.new.self in
    let new = c.step-2.new.self in
    let first = more_taken c.step.result old mid (event_view c.args.first.now) c.step.ensures.kept c.step.ensures.same in
    let second = more_taken c.step-2.result mid new (event_view c.args.second.now) c.step-2.ensures.kept c.step-2.ensures.same in
    let all : taken new ≡ taken old ++ (first.0 ++ second.0) =
    second.1 ∙ ap (λ l. l ++ second.0) first.1 ∙ append_assoc (taken old) first.0 second.0 in
    let there = c.step-2.ensures.one_list.alike (taken old) (first.0 ++ second.0) all in
    let division : new.world.division ≡ old.world.division = c.step-2.ensures.fixed.0 ∙ c.step.ensures.fixed.0 in
    let weights : new.world.weights ≡ old.world.weights = c.step-2.ensures.fixed.1 ∙ c.step.ensures.fixed.1 in
    let led : Leads (start new.world.division new.world.weights) (taken old) old.world =
    subst (λ (d : Division). Leads (start d new.world.weights) (taken old) old.world) (sym division)
    (subst (λ (ws : List ℕ). Leads (start old.world.division ws) (taken old) old.world) (sym weights)
    c.step.ensures.before.led) in
    let same : there.0 ≡ old.world = c.events_have_one_answer.ensures.run new.world.division new.world.weights
    (taken old) there.0 old.world c.step-2.ensures.history.made there.1 led in
    subst (λ (w : World). HoldAlike w new.world) same there.3
