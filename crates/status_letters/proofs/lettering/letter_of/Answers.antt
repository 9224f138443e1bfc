use Rattle.std.proofs.Common.{◌<◌, ◌∙◌, ℕ, All, Contains, List, length, subst, sym}
use Rattle.status_letters.proofs.Told.{ignored, queued, waiting}
use Rattle.status_letters.proofs.lettering.letter_of.Goals as goal

pub returns-in_default : goal.returns-in_default
returns-in_default c =
    ignored c.args.units.now c.unit_of.ensures.division c.args.held.now c.args.lacking.now c.requires.lacking c.args.position c.requires.listed
    c.if-held-position.false (sym c.unit_of.ensures.number ∙ c.in_default.is)

pub returns-then-some_lacks : goal.returns-then-some_lacks
returns-then-some_lacks c =
    let listed = subst (λ (ps : List ℕ). All (λ q. q < length c.args.units.now.tree) ps) c.build_deps.ensures.value c.build_deps.ensures.positions.within in
    let one = c.some_lacks.ensures.some c.if-some_lacks.true in
    waiting c.args.units.now c.unit_of.ensures.division c.args.held.now c.args.lacking.now c.requires.lacking c.args.position c.requires.listed
    c.in-Some.unit c.if-held-position.false (sym c.unit_of.ensures.number ∙ c.in-Some.is) listed
    one.0 (subst (λ (ps : List ℕ). Contains ps one.0) c.build_deps.ensures.value one.1) one.2

pub returns : goal.returns
returns c =
    let listed = subst (λ (ps : List ℕ). All (λ q. q < length c.args.units.now.tree) ps) c.build_deps.ensures.value c.build_deps.ensures.positions.within in
    queued c.args.units.now c.unit_of.ensures.division c.args.held.now c.args.lacking.now c.requires.lacking c.args.position c.requires.listed
    c.in-Some.unit c.if-held-position.false (sym c.unit_of.ensures.number ∙ c.in-Some.is) listed
    (rw c.build_deps.ensures.value at (c.some_lacks.ensures.none c.if-some_lacks.false))
