use Rattle.std.proofs.lemmas.Grind.{common_steps}
use Rattle.std.proofs.Common.{◌≡◌, ◌<◌, ◌≤◌, ◌+◌, ◌∙◌, ap, drop, length, subst, sym, arith, inl, inr}
use Rattle.std.proofs.lemmas.List.{length_push}
use Rattle.std.proofs.lemmas.Result.{err_from_is_err_and}
use Rattle.listing.specs.Dependencies.{words_of}
use Rattle.listing.specs.Listing.{most_dependencies}
use Rattle.listing.proofs.Left.{next_left, none_left}
use Rattle.listing.proofs.Numbers.{ReadSoFar, all_read, faulty_word, read_more, too_many}
use Rattle.listing.proofs.dependency.Dependencies.read.Goals as goal

pub words-preserved : goal.words-preserved
words-preserved c =
    let numbers = c.words.numbers.items in
    let k = length numbers in
    let next = next_left (words_of c.args.value.now) k c.in-Some.word.now (words_of c.in-Some.behind.now) (c.words.invariant.left ∙ c.in-Some.ensures.words) in
    let few : k < most_dependencies = omega (arith, c.len.ensures, c.words.numbers.ok.0, c.if-len-ge-MOST_DEPENDENCIES.false) in
    let more : length c.push.new.self.items ≡ k + 1 = ap length c.in_ok-push.ensures.items ∙ length_push numbers c.in_ok-number.field-0 in
    let read =
    read_more c.args.line c.args.value.now c.args.self.now c.words.self c.number.new.self numbers k c.in_ok-number.field-0 c.in-Some.word.now
    c.words.invariant.read next.0 next.1 few c.in_ok-number.ensures.answer.0 c.in_ok-number.ensures.answer.1 c.number.ensures.grows in
    record {
      read = subst (ReadSoFar c.args.line c.args.value.now c.args.self.now c.number.new.self c.push.new.self.items) (sym more)
          (subst (λ ns. ReadSoFar c.args.line c.args.value.now c.args.self.now c.number.new.self ns (k + 1)) (sym c.in_ok-push.ensures.items) read);
      left = ap (λ n. drop n (words_of c.args.value.now)) more ∙ next.2;
    }

pub returns-then-len-ge-MOST_DEPENDENCIES-clause-answer : goal.returns-then-len-ge-MOST_DEPENDENCIES-clause-answer
returns-then-len-ge-MOST_DEPENDENCIES-clause-answer c =
    let numbers = c.words.numbers.items in
    let k = length numbers in
    let next = next_left (words_of c.args.value.now) k c.in-Some.word.now (words_of c.in-Some.behind.now) (c.words.invariant.left ∙ c.in-Some.ensures.words) in
    let many : most_dependencies ≤ k = omega (arith, c.len.ensures, c.words.numbers.ok.0, c.if-len-ge-MOST_DEPENDENCIES.true) in
    inr (too_many c.args.line c.args.value.now c.args.self.now c.words.self numbers k c.in-Some.word.now c.words.invariant.read next.0 next.1 many)

pub returns-in_err-number-clause-answer : goal.returns-in_err-number-clause-answer
returns-in_err-number-clause-answer c =
    let numbers = c.words.numbers.items in
    let k = length numbers in
    let next = next_left (words_of c.args.value.now) k c.in-Some.word.now (words_of c.in-Some.behind.now) (c.words.invariant.left ∙ c.in-Some.ensures.words) in
    let few : k < most_dependencies = omega (arith, c.len.ensures, c.words.numbers.ok.0, c.if-len-ge-MOST_DEPENDENCIES.false) in
    let p = err_from_is_err_and c.from_residual-in_err-number.result c.from_residual-in_err-number.ensures.1 in
    rw (p.1, p.2) (elim c.in_err-number.ensures.answer [
      | inl m ↦ inl m
      | inr bad ↦ inr (faulty_word c.args.line c.args.value.now c.args.self.now c.words.self numbers k
          c.in-Some.word.now c.in_err-number.field-0.0 c.words.invariant.read next.0 next.1 few bad)
    ])

pub returns-clause-answer : goal.returns-clause-answer
returns-clause-answer c =
    let numbers = c.words.numbers.items in
    let all = none_left (words_of c.args.value.now) (length numbers) (c.words.invariant.left ∙ c.in_default.ensures.words) in
    all_read c.args.line c.args.value.now c.args.self.now c.words.self numbers (length numbers) c.words.invariant.read all

pub returns-in_err-push-clause-grows : goal.returns-in_err-push-clause-grows
returns-in_err-push-clause-grows c = grind (arith, common_steps)
