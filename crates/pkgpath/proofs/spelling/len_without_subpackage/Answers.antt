use Rattle.std.proofs.Common.{◌≡◌, ◌<◌, ◌+◌, ◌-◌, ◌==◌, ℕ, true, false, codes, drop, get_or, length, take, ap, sym, ◌∙◌, arith, rules}
use Rattle.std.proofs.Math.Seq.{take-length}
use Rattle.std.proofs.lemmas.List.{take_rest}
use Rattle.faults.specs.Bytes.{begins_with, comma}
use Rattle.pkgpath.proofs.Without.{cut-dashed, kept-no_comma, kept-undashed}
use Rattle.pkgpath.proofs.spelling.len_without_subpackage.Goals as goal

pub returns-in-None : goal.returns-in-None
returns-in-None c =
    let path = c.args.text.now in
    let none : (k : ℕ) → k < length path → (get_or path k 0 == comma) ≡ false = λ k l. search rules in
    record { text = take-length path ∙ kept-no_comma path c.requires none; within = omega arith }

pub returns-then-starts_with : goal.returns-then-starts_with
returns-then-starts_with c =
    let path = c.args.text.now in
    let j = c.in-Some.last_comma in
    let within : j < length path = search rules in
    let here : get_or path j 0 ≡ comma = search rules in
    let last : (k : ℕ) → j < k → k < length path → (get_or path k 0 == comma) ≡ false = λ k above below. search rules in
    let dashed : begins_with (codes "-") (take (length path - (j + 1)) (drop (j + 1) path)) ≡ true = search rules in
    record { text = cut-dashed path c.requires j within here last (ap (begins_with (codes "-")) (sym (take_rest path (j + 1))) ∙ dashed); within = omega (arith, within) }

pub returns-else-starts_with : goal.returns-else-starts_with
returns-else-starts_with c =
    let path = c.args.text.now in
    let j = c.in-Some.last_comma in
    let within : j < length path = search rules in
    let here : get_or path j 0 ≡ comma = search rules in
    let last : (k : ℕ) → j < k → k < length path → (get_or path k 0 == comma) ≡ false = λ k above below. search rules in
    let dashed : begins_with (codes "-") (take (length path - (j + 1)) (drop (j + 1) path)) ≡ false = search rules in
    record { text = take-length path ∙ kept-undashed path c.requires j within here last (ap (begins_with (codes "-")) (sym (take_rest path (j + 1))) ∙ dashed); within = omega arith }
