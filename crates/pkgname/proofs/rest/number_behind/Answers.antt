use Rattle.std.proofs.Common.{true, sym, ◌∙◌, refl}
use Rattle.pkgname.proofs.Fronts.{begins_from_stripped}
use Rattle.pkgname.proofs.rest.number_behind.Goals as goal

pub returns-then-is_all_digits : goal.returns-then-is_all_digits
returns-then-is_all_digits c =
    let begins = begins_from_stripped c.args.word.now c.args.text.now true c.in_ok-digits.ensures.cases.0 in
    let behind = c.in_ok-digits.ensures.cases.1 in
    let digits = rw behind at (sym c.is_all_digits.ensures ∙ c.if-is_all_digits.true) in
    rw (begins, digits, c.new.ensures, behind) refl

pub returns-else-is_all_digits : goal.returns-else-is_all_digits
returns-else-is_all_digits c =
    let begins = begins_from_stripped c.args.word.now c.args.text.now true c.in_ok-digits.ensures.cases.0 in
    let behind = c.in_ok-digits.ensures.cases.1 in
    let digits = rw behind at (sym c.is_all_digits.ensures ∙ c.if-is_all_digits.false) in
    rw (begins, digits) refl
