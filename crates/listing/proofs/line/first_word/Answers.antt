use Rattle.std.proofs.Common.{◌≡◌, ◌∷◌, [], Some, None, MatchOption, not, position, drop, ◌+◌, sym, subst, rules, tests}
use Rattle.std.proofs.lemmas.Iterator.{YieldsList-from_slice}
use Rattle.std.proofs.lemmas.Iterator.Search.{position_from_yields_List}
use Rattle.std.proofs.lemmas.List.{take_rest}
use Rattle.faults.specs.Bytes.{blank, tab}
use Rattle.memchr.specs.Find.{IsFirstByte, is_byte2}
use Rattle.listing.specs.Dependencies.{words_of}
use Rattle.listing.specs.Lines.{is_blank}
use Rattle.listing.proofs.Words.{last_word, no_word, word_and_more}
use Rattle.listing.proofs.line.first_word.Goals as goal

pub returns-in_err-start-clause-words : goal.returns-in_err-start-clause-words
returns-in_err-start-clause-words c =
    let none : position (λ b. not (is_blank b)) c.args.value.now ≡ None =
    sym (position_from_yields_List (λ b. not (is_blank b)) _ _ _ c.in_err-start.ensures.ran (YieldsList-from_slice c.args.value.now cc) (λ x b q k. search (rules, tests))) in
    subst (λ r. MatchOption r (words_of c.args.value.now ≡ []) (λ cut. words_of c.args.value.now ≡ cut.0.now ∷ words_of cut.1.now)) (sym c.from_residual.ensures)
    (no_word c.args.value.now none)

pub returns-in-Some-clause-words : goal.returns-in-Some-clause-words
returns-in-Some-clause-words c =
    let value = c.args.value.now in
    let start = c.in_ok-start.start in
    let found : position (λ b. not (is_blank b)) value ≡ Some start =
    sym (position_from_yields_List (λ b. not (is_blank b)) _ _ _ c.in_ok-start.ensures.ran (YieldsList-from_slice value cc) (λ x b q k. search (rules, tests))) in
    let rest = take_rest value start in
    let ends : IsFirstByte (is_byte2 blank tab) (drop start value) (Some c.in-Some.end) =
    subst (λ word. IsFirstByte (is_byte2 blank tab) word (Some c.in-Some.end)) rest c.in-Some.ensures in
    rw (rest, take_rest (drop start value) (c.in-Some.end + 1)) (word_and_more value start c.in-Some.end found ends)

pub returns-in-None-clause-words : goal.returns-in-None-clause-words
returns-in-None-clause-words c =
    let value = c.args.value.now in
    let start = c.in_ok-start.start in
    let found : position (λ b. not (is_blank b)) value ≡ Some start =
    sym (position_from_yields_List (λ b. not (is_blank b)) _ _ _ c.in_ok-start.ensures.ran (YieldsList-from_slice value cc) (λ x b q k. search (rules, tests))) in
    let rest = take_rest value start in
    let ends : IsFirstByte (is_byte2 blank tab) (drop start value) None =
    subst (λ word. IsFirstByte (is_byte2 blank tab) word None) rest c.in-None.ensures in
    rw rest (last_word value start found ends)
