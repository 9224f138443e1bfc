use Rattle.std.proofs.Common.{◌≡◌, ◌∙◌, sym, Some}
use Rattle.std.proofs.lemmas.Bool.{false≢true}
use Rattle.engine.specs.Division.{number_found}
use Rattle.engine.proofs.Places.{equal_bytes, same_bytes}
use Rattle.member.proofs.Named.{named_not, named_so}
use Rattle.member.proofs.naming.unit_named.Goals as goal

pub returns-then-eq : goal.returns-then-eq
returns-then-eq c =
    let d = c.args.units.now in
    let path = c.args.path.now in
    let u = c.in_ok-unit.unit in
    let found : number_found d path ≡ Some u = sym c.in_ok-unit.ensures in
    let same = same_bytes c.name.result.now path (sym c.eq.ensures ∙ c.if-eq.true) in
    sym (named_so d path u found (sym c.name.ensures ∙ same))

pub returns-else-eq : goal.returns-else-eq
returns-else-eq c =
    let d = c.args.units.now in
    let path = c.args.path.now in
    let u = c.in_ok-unit.unit in
    let found : number_found d path ≡ Some u = sym c.in_ok-unit.ensures in
    sym (named_not d path u found
    (λ e. false≢true (sym c.if-eq.false
    ∙ (c.eq.ensures ∙ equal_bytes c.name.result.now path (c.name.ensures ∙ e)))))
