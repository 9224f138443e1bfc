use Rattle.std.proofs.Common.{◌<◌, List, ap, map, subst, sym, ◌∙◌}
use Rattle.std.proofs.lemmas.List.{length-map}
use Rattle.claims.specs.Member.{Facts}
use Rattle.ballots.specs.declared.message.Note.{Note}
use Rattle.protocol.specs.State.{Value}
use Rattle.member.specs.shared.Fields.{engine_with, facts_of_known}
use Rattle.member.specs.inside.Units.{agreed_too}
use Rattle.member.proofs.HeldUnits.{engine_agrees, engine_stays}
use Rattle.member.proofs.KeptFacts.{at_unit, fact_kept, named_within}
use Rattle.member.proofs.facts.keep_fact.Goals as goal
use Rattle.engine.specs.Division.{unit_at}

pub returns-then-is_held-clause-facts : goal.returns-then-is_held-clause-facts
returns-then-is_held-clause-facts c =
    let d = c.args.units.now in
    let u = c.in-Some.unit in
    let lt = subst (λ n. u < n) (sym c.requires.each)
    (named_within d c.args.path.now u c.in-Some.ensures) in
    fact_kept d c.args.known.now c.args.path.now c.args.fact u c.index-known-unit.result
    c.keep.new.self lt c.in-Some.ensures c.keep.ensures

pub returns-then-is_held-clause-engine : goal.returns-then-is_held-clause-engine
returns-then-is_held-clause-engine c =
    let d = c.args.units.now in
    let u = c.in-Some.unit in
    let facts : List (Facts Value) = map facts_of_known c.args.known.now in
    let note : Note Value = record { path = c.args.path.now; fact = c.args.fact } in
    let within = named_within d c.args.path.now u c.in-Some.ensures in
    let lt = subst (λ n. u < n) (sym c.requires.each) within in
    let known = subst (λ n. u < n) (sym (length-map c.args.known.now facts_of_known)) lt in
    let later = at_unit d c.args.known.now c.args.path.now c.args.fact u
    c.index-known-unit.result c.keep.new.self lt c.in-Some.ensures
    c.keep.ensures in
    c.agree.ensures.engine
    ∙ (ap (λ e. agreed_too e (unit_at d u).packages) c.requires.engine
    ∙ (engine_agrees d facts u note known c.agree.ensures.division within
    (sym c.is_held-is_held.ensures ∙ c.if-is_held.true)
    ∙ ap (engine_with d) (sym later)))

pub returns-else-is_held-clause-facts : goal.returns-else-is_held-clause-facts
returns-else-is_held-clause-facts c =
    let d = c.args.units.now in
    let u = c.in-Some.unit in
    let lt = subst (λ n. u < n) (sym c.requires.each)
    (named_within d c.args.path.now u c.in-Some.ensures) in
    fact_kept d c.args.known.now c.args.path.now c.args.fact u c.index-known-unit.result
    c.keep.new.self lt c.in-Some.ensures c.keep.ensures

pub returns-else-is_held-clause-engine : goal.returns-else-is_held-clause-engine
returns-else-is_held-clause-engine c =
    let d = c.args.units.now in
    let u = c.in-Some.unit in
    let facts : List (Facts Value) = map facts_of_known c.args.known.now in
    let note : Note Value = record { path = c.args.path.now; fact = c.args.fact } in
    let within = named_within d c.args.path.now u c.in-Some.ensures in
    let lt = subst (λ n. u < n) (sym c.requires.each) within in
    let known = subst (λ n. u < n) (sym (length-map c.args.known.now facts_of_known)) lt in
    let later = at_unit d c.args.known.now c.args.path.now c.args.fact u
    c.index-known-unit.result c.keep.new.self lt c.in-Some.ensures
    c.keep.ensures in
    c.requires.engine
    ∙ (sym (engine_stays d facts u note known
    (sym c.is_held-is_held.ensures ∙ c.if-is_held.false))
    ∙ ap (engine_with d) (sym later))
