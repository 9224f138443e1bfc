use Rattle.std.proofs.Common.{◌++◌, sym, subst, ◌∙◌, inl, inr}
use Rattle.std.proofs.lemmas.Result.{MatchResult-weaker, err_from_is_err_and}
use Rattle.listing.specs.inside.Table.{Stands}
use Rattle.listing.proofs.Reading.{accepted_fault, accepted_setting, refused_path}
use Rattle.listing.proofs.table.Table.read.Goals as goal

pub returns-in_err-path : goal.returns-in_err-path
returns-in_err-path c = λ earlier h.
    let p = err_from_is_err_and c.from_residual.result c.from_residual.ensures.1 in
    rw (p.1, p.2) (refused_path earlier c.args.number c.args.line.now c.in-Some.parts.path.now c.in-Some-named.variable c.in_err-path.field-0.0
    (sym c.is_skipped.ensures ∙ c.if-is_skipped.false) c.in-Some.ensures.cut (sym c.in-Some.ensures.variable ∙ c.in-Some-named.ensures) c.in-Some.ensures.path c.in_err-path.ensures)

pub returns : goal.returns
returns c = λ earlier h.
    let skipped = sym c.is_skipped.ensures ∙ c.if-is_skipped.false in
    let named = sym c.in-Some.ensures.variable ∙ c.in-Some-named.ensures in
    let fault = accepted_fault earlier c.args.number c.args.line.now c.in-Some.parts.path.now c.in_ok-path.path c.in-Some.parts.value.now c.in-Some-named.variable
    skipped c.in-Some.ensures.cut named c.in-Some.ensures.path c.in_ok-path.ensures c.in-Some.ensures.value in
    let sets = accepted_setting c.args.number c.args.line.now c.in-Some.parts.path.now c.in_ok-path.path c.in-Some.parts.value.now c.in-Some-named.variable
    skipped c.in-Some.ensures.cut named c.in-Some.ensures.path c.in_ok-path.ensures c.in-Some.ensures.value in
    MatchResult-weaker c.set.result (c.set.ensures earlier h)
    (λ _ ok. (fault ∙ ok.0, subst (λ ss. Stands c.set.new.self (earlier ++ ss)) (sym sets) ok.1))
    (λ e bad. elim bad [ inl m ↦ inl m | inr b ↦ inr (fault ∙ b) ])
