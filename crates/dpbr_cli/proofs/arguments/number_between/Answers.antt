use Rattle.std.proofs.Common.{◌≡◌, ◌∙◌, ◌≤◌, ℕ, List, arith, inl, inr, None, Option, Some, subst, sym}
use Rattle.std.specs.Prelude.{IfNone, IfSome}
use Rattle.std.specs.Str.Parse.{ExplainsUnsignedError, HasUnsignedDigitsIfOk, ParsesUnsigned}
use Rattle.clap.specs.Words.{Row, found_of, rows_of}
use Rattle.clap.proofs.WalkLemmas.{one_text-rows}
use Rattle.dpbr_cli.specs.Values.{IsNumber}
use Rattle.dpbr_cli.proofs.Numbers.{number_read, some_number}
use Rattle.dpbr_cli.proofs.arguments.number_between.Goals as goal

if_none : {X : Type 0} (o : Option X) (P : Type 0) → P → IfNone o P
if_none None P p = p
if_none (Some x) P p = tt

pub returns-in_err-number-clause-none : goal.returns-in_err-number-clause-none
returns-in_err-number-clause-none c =
    let same = one_text-rows (found_of c.args.found.now) c.args.id.now in
    if_none c.from_residual.result _ (λ has.
    let read = number_read (λ bs r. ParsesUnsigned 32 10 bs r × ExplainsUnsignedError 10 bs r × HasUnsignedDigitsIfOk bs r) 32 (λ u x gives. gives.0)
    (rows_of (found_of c.args.found.now)) c.args.id.now c.get_one.result (λ t e. c.get_one.ensures.value t (same ∙ e))
    c.args.least c.args.most (omega (arith, c.ranges.most.fits)) has in
    let no : None ≡ Some read.0 = sym c.in_err-number.was ∙ read.1 in cc)

pub returns-then-number-most-clause-some : goal.returns-then-number-most-clause-some
returns-then-number-most-clause-some c =
    let same = one_text-rows (found_of c.args.found.now) c.args.id.now in
    let rows : List Row = rows_of (found_of c.args.found.now) in
    let read = some_number (λ bs r. ParsesUnsigned 32 10 bs r × ExplainsUnsignedError 10 bs r × HasUnsignedDigitsIfOk bs r) 32 (λ u x gives. gives.0)
    rows c.args.id.now c.get_one.result (λ t e. c.get_one.ensures.value t (same ∙ e)) (λ e. c.get_one.ensures.none (same ∙ e)) in
    (subst (λ (o : Option ℕ). IfSome o (IsNumber rows c.args.id.now)) c.in_ok-number.was read, c.if-least-number.true, c.if-number-most.true)

pub returns-else-least-number-clause-none : goal.returns-else-least-number-clause-none
returns-else-least-number-clause-none c = λ has.
    let same = one_text-rows (found_of c.args.found.now) c.args.id.now in
    let read = number_read (λ bs r. ParsesUnsigned 32 10 bs r × ExplainsUnsignedError 10 bs r × HasUnsignedDigitsIfOk bs r) 32 (λ u x gives. gives.0)
    (rows_of (found_of c.args.found.now)) c.args.id.now c.get_one.result (λ t e. c.get_one.ensures.value t (same ∙ e))
    c.args.least c.args.most (omega (arith, c.ranges.most.fits)) has in
    let is : Some read.0 ≡ Some c.in_ok-number.number = sym read.1 ∙ c.in_ok-number.was in
    let number : read.0 ≡ c.in_ok-number.number = cc in
    let least : c.args.least ≤ c.in_ok-number.number = subst (λ n. c.args.least ≤ n) number read.2 in
    let most : c.in_ok-number.number ≤ c.args.most = subst (λ n. n ≤ c.args.most) number read.3 in
    elim c.else-least-number.either [ inl past ↦ omega (arith, past.1, most) | inr short ↦ omega (arith, short, least) ]
