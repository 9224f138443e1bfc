use Rattle.std.proofs.Common.{◌∙◌, length, sym, true≢false}
use Rattle.std.proofs.lemmas.Bool.{eq-eqb, eqb-true}
use Rattle.run_file.proofs.Differing.{both_end, no_line, other_byte, other_ends, other_goes_on, some_line}
use Rattle.run_file.proofs.difference.first_difference.Goals as goal

pub returns-in_default-clause-exact : goal.returns-in_default-clause-exact
returns-in_default-clause-exact c =
    other_ends c.args.text.now c.args.other.now c.loop-byte.byte-index c.loop-byte.line c.loop-byte.rest.now
    c.loop-byte.invariant c.loop-byte-test.true c.in_default.ensures.cases

pub returns-in_default-clause-one_line : goal.returns-in_default-clause-one_line
returns-in_default-clause-one_line c =
    some_line c.args.text.now c.args.other.now c.loop-byte.line (
    other_ends c.args.text.now c.args.other.now c.loop-byte.byte-index c.loop-byte.line c.loop-byte.rest.now
    c.loop-byte.invariant c.loop-byte-test.true c.in_default.ensures.cases
    )

pub returns-then-first-byte-clause-exact : goal.returns-then-first-byte-clause-exact
returns-then-first-byte-clause-exact c =
    other_byte c.args.text.now c.args.other.now c.loop-byte.byte-index c.loop-byte.line c.loop-byte.rest.now
    c.in-Some.first.now c.in-Some.behind.now c.loop-byte.invariant c.loop-byte-test.true
    c.in-Some.ensures.cases.0 c.if-first-byte.true

pub returns-then-first-byte-clause-one_line : goal.returns-then-first-byte-clause-one_line
returns-then-first-byte-clause-one_line c =
    some_line c.args.text.now c.args.other.now c.loop-byte.line (
    other_byte c.args.text.now c.args.other.now c.loop-byte.byte-index c.loop-byte.line c.loop-byte.rest.now
    c.in-Some.first.now c.in-Some.behind.now c.loop-byte.invariant c.loop-byte-test.true
    c.in-Some.ensures.cases.0 c.if-first-byte.true
    )

pub returns-then-is_empty-clause-one_line : goal.returns-then-is_empty-clause-one_line
returns-then-is_empty-clause-one_line c =
    no_line c.args.text.now c.args.other.now (
    both_end c.args.text.now c.args.other.now c.loop-byte.byte-index c.loop-byte.line c.loop-byte.rest.now
    c.loop-byte.invariant c.loop-byte-test.false (eqb-true (length c.loop-byte.rest.now) 0 (sym c.if-is_empty.ensures))
    )

pub returns-else-is_empty-clause-exact : goal.returns-else-is_empty-clause-exact
returns-else-is_empty-clause-exact c =
    other_goes_on c.args.text.now c.args.other.now c.loop-byte.byte-index c.loop-byte.line c.loop-byte.rest.now
    c.loop-byte.invariant c.loop-byte-test.false (λ none. true≢false (sym (eq-eqb (length c.loop-byte.rest.now) 0 none) ∙ sym c.if-is_empty.ensures))

pub returns-else-is_empty-clause-one_line : goal.returns-else-is_empty-clause-one_line
returns-else-is_empty-clause-one_line c =
    some_line c.args.text.now c.args.other.now c.loop-byte.line (
    other_goes_on c.args.text.now c.args.other.now c.loop-byte.byte-index c.loop-byte.line c.loop-byte.rest.now
    c.loop-byte.invariant c.loop-byte-test.false (λ none. true≢false (sym (eq-eqb (length c.loop-byte.rest.now) 0 none) ∙ sym c.if-is_empty.ensures))
    )
