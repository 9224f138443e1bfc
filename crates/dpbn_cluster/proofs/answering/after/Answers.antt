use Rattle.std.proofs.Common.{◌≡◌, ◌∙◌, ◌++◌, List, [], ap, length, map, subst, sym}
use Rattle.dpbn_cluster.proofs.Lines.{shown}
use Rattle.dpbn_cluster.proofs.Running.{events_of}
use Rattle.dpbn_cluster.specs.Cluster.{IsShown}
use Rattle.dpbn_cluster.specs.Running.{AreEventsOf}
use Rattle.protocol.specs.Events.{Event, event_view}
use Rattle.cluster_turns.specs.State.{taken}
use Rattle.dpbn_cluster.proofs.answering.after.Goals as goal

pub returns-clause-shown : goal.returns-clause-shown
returns-clause-shown g c =
    let now = c.run.new.cluster in
    let world = c.events-events.ensures.history in
    let text = c.in_ok-lines.lines.items in
    let fixed = c.run.ensures.fixed in
    let there = shown now world.0 world.1 c.args.files.now.members text
    (ap length fixed.1 ∙ c.requires.each) (c.in_ok-lines.ensures world.0 world.1) in
    subst (λ es. IsShown c.args.cluster.division c.args.cluster.weights (map event_view es) text)
    (sym c.into_events.ensures)
    (subst (λ d. IsShown d c.args.cluster.weights (map event_view now.events) text) fixed.0
    (subst (λ ws. IsShown now.division ws (map event_view now.events) text) fixed.1 there))

pub returns-clause-ran : goal.returns-clause-ran
returns-clause-ran g c = (c.run.new.cluster, c.run.ensures.ran, c.into_events.ensures)

pub returns-clause-events : goal.returns-clause-events
returns-clause-events g c none =
    let ran = c.run.ensures.ran in
    let old = c.args.cluster in
    let all = events_of g.P.Port c.args.builds.now old c.run.new.cluster
    ran.answers ran.led in
    let first : taken old ≡ [] = ap (map event_view) none in
    let are : map event_view c.into_events.result.items ≡ all.0 =
    ap (map event_view) c.into_events.ensures
    ∙ (all.2 ∙ ap (λ (l : List Event). l ++ all.0) first) in
    (ran.answers, ran.count, subst (AreEventsOf ran.answers) (sym are) all.1)
