-- Texts of builds, and how they begin.
use Rattle.std.proofs.Common.{◌≡◌, ℕ, zero, suc, ◌+◌, ◌<◌, ◌≤◌, true, false, ltb, List, [], ◌∷◌, ◌++◌, length, get_or, take, sym, ap, ◌∙◌, refl, append_assoc, arith}
use Rattle.std.proofs.lemmas.Bool.{le-ltb}
use Rattle.std.proofs.lemmas.List.{append-nil, length-append, take_more}
use Rattle.faults.specs.Bytes.{Text}
use Rattle.package_record.specs.Build.{build_text, lines_before, records_text, several_lines}
use Rattle.package_record.specs.BuildReading.{is_several}
use Rattle.package_record.specs.Content.{Content, ended, record_text}
use Rattle.package_record.proofs.ReadFields.{where_false}

-- the lines before two or more records
pub lines_of_several : (n : ℕ) → 2 ≤ n → lines_before n ≡ ended (several_lines n)
lines_of_several n two = where_false (ltb n 2) [] (ended (several_lines n)) (le-ltb n 2 two)

-- a build's text is the lines before its records, followed by these
pub text_parts : (cs : List Content) → build_text cs ≡ lines_before (length cs) ++ records_text cs
text_parts [] = refl
text_parts (c ∷ []) = sym (append-nil (record_text c))
text_parts (c ∷ d ∷ cs) = ap (λ (t : Text). t ++ records_text (c ∷ d ∷ cs)) (sym (lines_of_several (length (c ∷ d ∷ cs)) (omega arith)))

pub text_length : (cs : List Content) → length (build_text cs) ≡ length (lines_before (length cs)) + length (records_text cs)
text_length cs = ap length (text_parts cs) ∙ length-append (lines_before (length cs)) (records_text cs)

-- each record's text is part of the build's
pub record_within : (cs : List Content) → (k : ℕ) (d : Content) → k < length cs → length (record_text (get_or cs k d)) ≤ length (records_text cs)
record_within [] k d lt = absurd (omega arith)
record_within (c ∷ cs) zero d lt = omega (arith, length-append (record_text c) (records_text cs))
record_within (c ∷ cs) (suc k) d lt = omega (arith, length-append (record_text c) (records_text cs), record_within cs k d (omega arith))

-- the first line identifies the text of several
pub several_begins : (n : ℕ) (rest : Text) → is_several (ended (several_lines n) ++ rest) ≡ true
unfolding ended
several_begins n rest = refl

pub record_begins : (c : Content) (rest : Text) → is_several (record_text c ++ rest) ≡ false
unfolding ended
record_begins c rest = refl

-- one more record
pub text_push : (cs : List Content) (c : Content) → length (records_text (cs ++ c ∷ [])) ≡ length (records_text cs) + length (record_text c)
text_push [] c = omega (arith, length-append (record_text c) [])
text_push (d ∷ cs) c =
    omega (arith, length-append (record_text d) (records_text (cs ++ c ∷ [])), length-append (record_text d) (records_text cs), text_push cs c)

pub records_push : (cs : List Content) (c : Content) → records_text (cs ++ c ∷ []) ≡ records_text cs ++ record_text c
records_push [] c = append-nil (record_text c)
records_push (d ∷ cs) c = ap (λ (t : Text). record_text d ++ t) (records_push cs c) ∙ sym (append_assoc (record_text d) (records_text cs) (record_text c))

-- the text with one more record after lines and records
pub text_next : (lines mid new : Text) (cs : List Content) (i : ℕ) (c : Content) → i < length cs → c ≡ get_or cs i c → mid ≡ lines ++ records_text (take i cs) → new ≡ mid ++ record_text c
    → new ≡ lines ++ records_text (take (i + 1) cs)
text_next lines mid new cs i c lt here before e =
    let taken : take (i + 1) cs ≡ take i cs ++ c ∷ [] = take_more cs i c lt ∙ ap (λ (d : Content). take i cs ++ d ∷ []) (sym here) in
    e ∙ ap (λ (t : Text). t ++ record_text c) before ∙ append_assoc lines (records_text (take i cs)) (record_text c)
    ∙ ap (λ (t : Text). lines ++ t) (sym (records_push (take i cs) c)) ∙ ap (λ (ds : List Content). lines ++ records_text ds) (sym taken)
