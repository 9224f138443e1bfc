use Rattle.std.proofs.lemmas.Grind.{common_steps}
use Rattle.std.proofs.Common.{rules, arith, ◌≡◌, ◌∙◌, Option, None, ap, map, option_map, subst}
use Rattle.std.proofs.Common.{◌++◌, arith, drop, length, sym, take, if◌then◌else◌}
use Rattle.std.specs.Prelude.{unwrap_or}
use Rattle.std.specs.Vec.{with_items}
use Rattle.std.proofs.Math.Seq.{take-append_seam}
use Rattle.std.proofs.lemmas.List.{length-map}
use Rattle.faults.specs.Answers.{option_or}
use Rattle.ballots.specs.declared.message.Fact.{Fact}
use Rattle.ballots.specs.declared.message.Note.{Note}
use Rattle.protocol.specs.State.{State, Value, facts_then, noted_at}
use Rattle.engine.specs.Division.{number_named}
use Rattle.member.specs.OpenClaims.{open_of}
use Rattle.member.specs.inside.Waiting.{waits}
use Rattle.member.specs.Prepared.{MayBeTaken, Prepared}
use Rattle.member.specs.shared.Fields.{engine_with, facts_of_known, state_of}
use Rattle.member.specs.inside.Steps.{prepared_by}
use Rattle.member.proofs.Taking.{kept_then}
use Rattle.member.proofs.member.Member.commit.Goals as goal

pub keep_fact-requires-clause-each : goal.keep_fact-requires-clause-each
keep_fact-requires-clause-each c =
    let m = c.self.inside in
    ap length c.as_mut_slice.ensures.value
    ∙ (sym (length-map m.known.items facts_of_known) ∙ c.self.invariant.member.each)

pub keep_fact-requires-clause-engine : goal.keep_fact-requires-clause-engine
keep_fact-requires-clause-engine c =
    let m = c.self.inside in
    c.self.invariant.engine
    ∙ ap (λ ks. engine_with m.units (map facts_of_known ks)) (sym c.as_mut_slice.ensures.value)

pub invariant_of-self : goal.invariant_of-self
invariant_of-self c =
    let m = c.self.inside in
    let p : Prepared = prepared_by c.step.inside in
    let may : MayBeTaken (state_of m) p = subst (MayBeTaken (state_of m)) (sym c.step.view_is)
    (subst (λ (s : State). MayBeTaken s c.args.step) (sym c.self.view_is)
    c.requires) in
    let claim = c.change_claim.ensures.claim in
    let weighed = c.change_claim.ensures.weighed in
    let job = c.change_job.ensures
    ∙ (ap (λ o. if waits (option_map open_of o)
    then option_or c.step.inside.kept_job m.job else None) c.as_ref.ensures.value
    ∙ ap (λ given. if waits (option_map open_of c.change_claim.new.claim)
    then option_or given m.job else None) c.step.invariant.job) in
    let note = c.in-Some-Some.note in
    let fact : c.in-Some-Some.fact ≡ note.fact =
    ap (λ (o : Option (Fact Value)). unwrap_or o c.in-Some-Some.fact) (sym c.in-Some-Some.is-1
    ∙ (c.step.invariant.fact
    ∙ ap (option_map (λ (n : Note Value). n.fact)) c.in-Some-Some.is-0)) in
    let known = c.keep_fact.new.known in
    let count : m.known.len ≡ length known =
    omega (arith, c.as_mut_slice.ensures.len, c.keep_fact.auto.known) in
    let written : (with_items m.known known).items ≡ known =
    ap (λ n. take n (known ++ drop (length known) m.known.items)) count
    ∙ take-append_seam known (drop (length known) m.known.items) in
    let facts = ap (map facts_of_known) written ∙ (c.keep_fact.ensures.facts
    ∙ (ap (λ ks. noted_at (number_named m.units note.path) (map facts_of_known ks)
    (record { path = note.path; fact = c.in-Some-Some.fact })) c.as_mut_slice.ensures.value
    ∙ (ap (λ x. noted_at (number_named m.units note.path) (map facts_of_known m.known.items)
    (record { path = note.path; fact = x })) fact
    ∙ ap (facts_then m.units (map facts_of_known m.known.items)) (sym c.in-Some-Some.is-0)))) in
    kept_then m
    (record m {
      known = with_items m.known c.keep_fact.new.known;
      claim = c.change_claim.new.claim;
      job = c.change_job.new.job;
      engine = c.keep_fact.new.engine;
    }) p c.self.invariant may facts claim weighed job
    (c.keep_fact.ensures.engine
    ∙ ap (λ ks. engine_with m.units (map facts_of_known ks)) (sym written))

pub invariant_of-self-in_default-2 : goal.invariant_of-self-in_default-2
invariant_of-self-in_default-2 c =
    let m = c.self.inside in
    let p : Prepared = prepared_by c.step.inside in
    let may : MayBeTaken (state_of m) p = subst (MayBeTaken (state_of m)) (sym c.step.view_is)
    (subst (λ (s : State). MayBeTaken s c.args.step) (sym c.self.view_is)
    c.requires) in
    let claim = c.change_claim.ensures.claim in
    let weighed = c.change_claim.ensures.weighed in
    let job = c.change_job.ensures
    ∙ (ap (λ o. if waits (option_map open_of o)
    then option_or c.step.inside.kept_job m.job else None) c.as_ref.ensures.value
    ∙ ap (λ given. if waits (option_map open_of c.change_claim.new.claim)
    then option_or given m.job else None) c.step.invariant.job) in
    kept_then m (record m { claim = c.change_claim.new.claim; job = c.change_job.new.job }) p
    c.self.invariant may
    (ap (facts_then m.units (map facts_of_known m.known.items)) (sym c.in_default.is-0))
    claim weighed job c.self.invariant.engine

pub invariant_of-self-in_default : goal.invariant_of-self-in_default
invariant_of-self-in_default c = search rules

pub returns-in-Some-Some-clause-state : goal.returns-in-Some-Some-clause-state
returns-in-Some-Some-clause-state c = grind (arith, common_steps)

pub returns-in-Some-Some-clause-outcome : goal.returns-in-Some-Some-clause-outcome
returns-in-Some-Some-clause-outcome c = search rules

pub returns-in_default-clause-state : goal.returns-in_default-clause-state
returns-in_default-clause-state c = search rules

pub returns-in_default-clause-outcome : goal.returns-in_default-clause-outcome
returns-in_default-clause-outcome c = search rules
