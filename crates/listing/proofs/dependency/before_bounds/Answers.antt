use Rattle.std.proofs.Common.{◌≡◌, [], sym, ◌∙◌, rules, tests}
use Rattle.std.proofs.lemmas.Iterator.{YieldsList-from_slice}
use Rattle.std.proofs.lemmas.Iterator.Search.{position_from_yields_List}
use Rattle.listing.specs.Dependencies.{is_operator_byte}
use Rattle.listing.proofs.Places.{before_first_at, before_first_none, from_place, nothing_from}
use Rattle.listing.proofs.dependency.before_bounds.Goals as goal

pub returns-in-Some-clause-path : goal.returns-in-Some-clause-path
returns-in-Some-clause-path c =
    sym (before_first_at is_operator_byte c.args.field.now c.in-Some.at
    (sym (position_from_yields_List is_operator_byte _ _ _ c.in-Some.ensures.ran (YieldsList-from_slice c.args.field.now cc) (λ x b q k. search (rules, tests)))))

pub returns-in-Some-clause-bounds : goal.returns-in-Some-clause-bounds
returns-in-Some-clause-bounds c =
    from_place is_operator_byte c.args.field.now c.in-Some.at
    (sym (position_from_yields_List is_operator_byte _ _ _ c.in-Some.ensures.ran (YieldsList-from_slice c.args.field.now cc) (λ x b q k. search (rules, tests))))

pub returns-in-None-clause-path : goal.returns-in-None-clause-path
returns-in-None-clause-path c =
    sym (before_first_none is_operator_byte c.args.field.now
    (sym (position_from_yields_List is_operator_byte _ _ _ c.in-None.ensures.ran (YieldsList-from_slice c.args.field.now cc) (λ x b q k. search (rules, tests)))))

pub returns-in-None-clause-bounds : goal.returns-in-None-clause-bounds
returns-in-None-clause-bounds c =
    (let nothing : c.as_slice.result.now ≡ [] = search rules in nothing)
    ∙ nothing_from is_operator_byte c.args.field.now
    (sym (position_from_yields_List is_operator_byte _ _ _ c.in-None.ensures.ran (YieldsList-from_slice c.args.field.now cc) (λ x b q k. search (rules, tests))))
