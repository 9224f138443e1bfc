use Rattle.std.proofs.Common.{◌≡◌, ◌≤◌, ◌∙◌, Err, Ok, ap, arith, false, max, nat_le, refl, subst}
use Rattle.std.proofs.Common.{suc, sym, true}
use Rattle.std.specs.Prelude.{is_some}
use Rattle.std.proofs.lemmas.Bool.{false≢true, le-leb, leb-true}
use Rattle.std.proofs.lemmas.Result.{err_from_is_err_and}
use Rattle.claims.specs.Claim.{greatest_round}
use Rattle.engine.proofs.Lists.{not_true}
use Rattle.protocol.specs.Answers.{answered, everyone}
use Rattle.protocol.specs.InTheAgreement.{view}
use Rattle.protocol.specs.State.{facts_at, is_held}
use Rattle.protocol.specs.Step.{claims, is_waiting}
use Rattle.protocol.specs.declared.refusal.Refusal.TheVariants as refusals
use Rattle.protocol.proofs.Asked.{unit_is_one}
use Rattle.member.specs.inside.Steps.{Prepares, opened_in}
use Rattle.member.proofs.KnownUnits.{facts_known, unit_within}
use Rattle.member.proofs.NewClaims.{held_claim, opened_claim, spent_claim, strange_claim}
use Rattle.member.proofs.NewClaims.{unit_claim, waiting_claim, waits_not}
use Rattle.member.proofs.Preparing.{made_so, no_memory, refused}
use Rattle.member.proofs.member.Member.claimed.Goals as goal
use Rattle.member.proofs.member.Member.claimed.Goals.{in-T, in_default}

pub returns-in_err-unit : goal.returns-in_err-unit
returns-in_err-unit c =
    let p = err_from_is_err_and c.from_residual.result c.from_residual.ensures.1 in
    let err = c.in_err-unit.ensures.err in
    rw p.1 (strange_claim c.args.self.now c.args.path.now c.args.host c.args.above p.0 err.0
    (p.2 ∙ err.1))

pub unit_letter-letter-requires : goal.unit_letter-letter-requires
unit_letter-letter-requires c =
    unit_is_one c.args.self.now c.args.path.now c.in_ok-unit.unit c.in_ok-unit.ensures.ok

pub opening-requires : goal.opening-requires
opening-requires c =
    unit_is_one c.args.self.now c.args.path.now c.in_ok-unit.unit c.in_ok-unit.ensures.ok

pub returns-then-is_some : goal.returns-then-is_some
returns-then-is_some c =
    let s = c.args.self.now in
    let u = c.in_ok-unit.unit in
    let found = c.in_ok-unit.ensures.ok in
    let letter = c.unit_letter-letter.result in
    let lt = unit_is_one s c.args.path.now u found in
    let within = unit_within c.self.inside s u c.self.view_is c.self.invariant.member lt in
    let known =
    facts_known c.self.inside s u c.index.result.now c.self.view_is within c.index.ensures in
    let held : is_held s u ≡ true =
    ap (λ f. is_some f.held) known ∙ (sym c.is_some.ensures ∙ c.if-is_some.true) in
    unit_claim s c.args.path.now c.args.host c.args.above u letter (Err refusals.Held) found
    c.unit_letter-letter.ensures
    (refused s (claims s letter c.args.host c.args.above u) refusals.Held
    (held_claim s letter c.args.host c.args.above u held))

pub returns-then-matches : goal.returns-then-matches
returns-then-matches c =
    let s = c.args.self.now in
    let u = c.in_ok-unit.unit in
    let found = c.in_ok-unit.ensures.ok in
    let letter = c.unit_letter-letter.result in
    let lt = unit_is_one s c.args.path.now u found in
    let within = unit_within c.self.inside s u c.self.view_is c.self.invariant.member lt in
    let known =
    facts_known c.self.inside s u c.index.result.now c.self.view_is within c.index.ensures in
    let held : is_held s u ≡ false =
    ap (λ f. is_some f.held) known ∙ (sym c.is_some.ensures ∙ c.if-is_some.false) in
    let waits : is_waiting letter ≡ true = elim c.match-matches.branch [
      | in-T w ↦ ap is_waiting w.in-T.is
      | in_default w ↦ absurd (false≢true (sym w.matches-is ∙ c.if-matches.true))
    ] in
    unit_claim s c.args.path.now c.args.host c.args.above u letter (Err refusals.Waiting) found
    c.unit_letter-letter.ensures
    (refused s (claims s letter c.args.host c.args.above u) refusals.Waiting
    (waiting_claim s letter c.args.host c.args.above u held waits))

pub returns-in_err-opening-in-Ok : goal.returns-in_err-opening-in-Ok
returns-in_err-opening-in-Ok c =
    let s = c.args.self.now in
    let u = c.in_ok-unit.unit in
    let letter = c.unit_letter-letter.result in
    let right = claims s letter c.args.host c.args.above u in
    let p = err_from_is_err_and c.from_residual-in_err-opening-in-Ok.result
    c.from_residual-in_err-opening-in-Ok.ensures.1 in
    rw p.1 (unit_claim s c.args.path.now c.args.host c.args.above u letter (Err p.0)
    c.in_ok-unit.ensures.ok c.unit_letter-letter.ensures
    (subst (λ e. Prepares s right (Err e)) (sym p.2) (no_memory s right)))

pub returns-in_ok-opening-in-Ok : goal.returns-in_ok-opening-in-Ok
returns-in_ok-opening-in-Ok c =
    let s = c.args.self.now in
    let u = c.in_ok-unit.unit in
    let host = c.args.host in
    let above = c.args.above in
    let round = c.in-Ok.round in
    let found = c.in_ok-unit.ensures.ok in
    let letter = c.unit_letter-letter.result in
    let step = c.in_ok-opening-in-Ok.field-0 in
    let lt = unit_is_one s c.args.path.now u found in
    let within = unit_within c.self.inside s u c.self.view_is c.self.invariant.member lt in
    let known =
    facts_known c.self.inside s u c.index.result.now c.self.view_is within c.index.ensures in
    let known2 =
    facts_known c.self.inside s u c.index-2.result.now c.self.view_is within c.index-2.ensures in
    let held : is_held s u ≡ false =
    ap (λ f. is_some f.held) known ∙ (sym c.is_some.ensures ∙ c.if-is_some.false) in
    let waits : is_waiting letter ≡ false = elim c.match-matches.branch [
      | in-T w ↦ absurd (false≢true (sym c.if-matches.false ∙ w.matches-is))
      | in_default w ↦ waits_not letter w.in_default.not-T
    ] in
    let opened = ap (λ f. f.opened) known2 in
    let top : c.max.result ≡ max above (facts_at s u).opened =
    omega (arith, c.max.ensures, opened) in
    let some_left : nat_le greatest_round (max above (facts_at s u).opened) ≡ false =
    not_true (nat_le greatest_round (max above (facts_at s u).opened))
    (λ e. false≢true (c.in-Ok.ensures.spent.1 (subst (λ n. greatest_round ≤ n) (sym top)
    (leb-true greatest_round (max above (facts_at s u).opened) e)))) in
    let next : round ≡ suc (max above (facts_at s u).opened) =
    omega (arith, c.in-Ok.ensures.above, top) in
    unit_claim s c.args.path.now host above u letter (Ok step) found c.unit_letter-letter.ensures
    (made_so s (claims s letter host above u)
    (answered s u host (everyone s) (opened_in (view s u) s.me round)) step
    (opened_claim s letter host above u round held waits some_left next)
    c.in_ok-opening-in-Ok.ensures)

pub returns-in-Err : goal.returns-in-Err
returns-in-Err c =
    let s = c.args.self.now in
    let u = c.in_ok-unit.unit in
    let host = c.args.host in
    let above = c.args.above in
    let found = c.in_ok-unit.ensures.ok in
    let letter = c.unit_letter-letter.result in
    let lt = unit_is_one s c.args.path.now u found in
    let within = unit_within c.self.inside s u c.self.view_is c.self.invariant.member lt in
    let known =
    facts_known c.self.inside s u c.index.result.now c.self.view_is within c.index.ensures in
    let known2 =
    facts_known c.self.inside s u c.index-2.result.now c.self.view_is within c.index-2.ensures in
    let held : is_held s u ≡ false =
    ap (λ f. is_some f.held) known ∙ (sym c.is_some.ensures ∙ c.if-is_some.false) in
    let waits : is_waiting letter ≡ false = elim c.match-matches.branch [
      | in-T w ↦ absurd (false≢true (sym c.if-matches.false ∙ w.matches-is))
      | in_default w ↦ waits_not letter w.in_default.not-T
    ] in
    let opened = ap (λ f. f.opened) known2 in
    let top : c.max.result ≡ max above (facts_at s u).opened =
    omega (arith, c.max.ensures, opened) in
    let none_left = le-leb greatest_round (max above (facts_at s u).opened)
    (subst (λ n. greatest_round ≤ n) top (c.in-Err.ensures.spent.0 refl)) in
    unit_claim s c.args.path.now host above u letter (Err refusals.RoundsSpent) found
    c.unit_letter-letter.ensures
    (refused s (claims s letter host above u) refusals.RoundsSpent
    (spent_claim s letter host above u held waits none_left))
