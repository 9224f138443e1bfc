-- Texts of builds are parsed as these builds.
use Rattle.std.proofs.Common.{◌≡◌, ℕ, suc, ◌+◌, ◌-◌, ◌<◌, ◌≤◌, true, false, ltb, List, [], ◌∷◌, ◌++◌, length, None, Ok, refl, sym, ap, ◌∙◌, append_assoc, arith, codes, decimal}
use Rattle.std.specs.List.{All}
use Rattle.std.proofs.lemmas.Bool.{and_from, le-ltb}
use Rattle.std.proofs.lemmas.List.{append-nil, length-append}
use Rattle.std.proofs.lemmas.List.Splits.{join_with_byte-slice_split}
use Rattle.faults.specs.Answers.{map_ok}
use Rattle.faults.specs.Bytes.{Text}
use Rattle.faults.specs.Pieces.{pieces_at}
use Rattle.package_record.specs.Build.{IsBuild, build_text, most_packages, records_text, several_lines}
use Rattle.package_record.specs.BuildReading.{alone, first_build_of, is_several, next_fault, next_of, packages_of, records_in, several_of, whole_build_of, whole_several_of}
use Rattle.package_record.specs.Content.{Content, IsRecord, ended, most_bytes, record_text}
use Rattle.package_record.proofs.Following.{AllFollow, all_follow}
use Rattle.package_record.proofs.BuildTexts.{record_begins, several_begins}
use Rattle.package_record.proofs.Cuts.{some_line}
use Rattle.package_record.proofs.Lacking.{lacks-append}
use Rattle.package_record.proofs.ReadFields.{field_read, line_read, number_read, where_false, where_true}
use Rattle.package_record.proofs.ReadWhole.{ended_split, front_is_read, line_lacks, number_lacks, text_is_read}
use Rattle.package_record.proofs.Steps.{ok_is}

-- ---- the two lines

packages_read : (n : ℕ) (rest : Text) → 2 ≤ n → n ≤ most_packages → packages_of (ended (several_lines n) ++ rest) ≡ Ok (n, rest)
unfolding packages_of
packages_read n rest low high =
    let word = codes "@packages " in
    let behind = (word ++ decimal n) ∷ pieces_at 10 rest in
    let second = line_lacks (word ++ decimal n) (lacks-append 10 word (decimal n) refl (number_lacks n (omega arith))) in
    let lines = ended_split (several_lines n) rest (and_from _ _ refl (and_from _ _ second refl)) in
    let some : 0 < length behind = omega arith in
    rw (
      lines,
      line_read 0 (codes "@dpb 2") behind some,
      field_read word (decimal n) 1 (pieces_at 10 rest) (some_line 10 rest),
      number_read 2 most_packages 2 n (omega arith) low high,
      join_with_byte-slice_split 10 rest,
    )

-- ---- the records

next_read : (n : ℕ) (front : List Content) (c : Content) (behind : Text) → IsRecord c → next_fault front c ≡ None → n - length behind ≤ most_bytes → next_of n front (record_text c ++ behind) ≡ Ok (c, behind)
unfolding next_of
next_read n front c behind good follows within = rw (front_is_read c behind good, le-ltb most_bytes (n - length behind) within, follows) refl

records_read : (n : ℕ) (front cs : List Content) (rest : Text) → All IsRecord cs → AllFollow front cs → n ≤ most_bytes + length rest → records_in n (length cs) front (records_text cs ++ rest) ≡ Ok (front ++ cs, rest)
unfolding records_in
records_read n front [] rest good follow short = ap (λ (cs : List Content). Ok (cs, rest)) (sym (append-nil front))
records_read n front (c ∷ cs) rest good follow short =
    let behind = records_text cs ++ rest in
    let within : n - length behind ≤ most_bytes = omega (arith, length-append (records_text cs) rest, short) in
    ap (records_in n (suc (length cs)) front) (append_assoc (record_text c) (records_text cs) rest)
    ∙ rw (next_read n front c behind (good 0 c (omega arith)) follow.0 within) (records_read n (front ++ c ∷ []) cs rest (λ k x below. good (suc k) x (omega arith)) follow.1 short)
    ∙ ap (λ (cs : List Content). Ok (cs, rest)) (append_assoc front (c ∷ []) cs)

several_read : (c d : Content) (cs : List Content) (rest : Text) → IsBuild (c ∷ d ∷ cs) → several_of (build_text (c ∷ d ∷ cs) ++ rest) ≡ Ok (c ∷ d ∷ cs, rest)
unfolding several_of
several_read c d cs rest good =
    let all = c ∷ d ∷ cs in
    let n = length all in
    let text = build_text all ++ rest in
    let behind = records_text all ++ rest in
    let parts : text ≡ ended (several_lines n) ++ behind = append_assoc (ended (several_lines n)) (records_text all) rest in
    let fits : length (build_text all) ≤ most_bytes = good.fits in
    let short : length text ≤ most_bytes + length rest = omega (arith, length-append (build_text all) rest, fits) in
    rw (ap packages_of parts ∙ packages_read n behind (omega arith) good.few) (records_read (length text) [] all rest good.records (all_follow all good.ascending good.alike) short)

-- ---- the whole

-- the text of a build is parsed as that build
pub build_is_read : (cs : List Content) → IsBuild cs → whole_build_of (build_text cs) ≡ Ok cs
unfolding whole_build_of whole_several_of
build_is_read [] good = absurd good.alike
build_is_read (c ∷ []) good =
    let begins : is_several (record_text c) ≡ false = ap is_several (sym (append-nil (record_text c))) ∙ record_begins c [] in
    where_false (is_several (record_text c)) _ _ begins ∙ ap (map_ok alone) (text_is_read c (good.records 0 c (omega arith)))
build_is_read (c ∷ d ∷ cs) good =
    let text = build_text (c ∷ d ∷ cs) in
    let read : several_of text ≡ Ok (c ∷ d ∷ cs, []) = ap several_of (sym (append-nil text)) ∙ several_read c d cs [] good in
    where_true (is_several text) _ _ (several_begins (length (c ∷ d ∷ cs)) (records_text (c ∷ d ∷ cs)))
    ∙ where_false (ltb most_bytes (length text)) _ _ (le-ltb most_bytes (length text) good.fits)
    ∙ rw read

-- also if more text follows
pub build_front_is_read : (cs : List Content) (rest : Text) → IsBuild cs → first_build_of (build_text cs ++ rest) ≡ Ok (cs, rest)
unfolding first_build_of
build_front_is_read [] rest good = absurd good.alike
build_front_is_read (c ∷ []) rest good =
    where_false (is_several (record_text c ++ rest)) _ _ (record_begins c rest)
    ∙ ap (map_ok (λ c. (alone c.0, c.1))) (front_is_read c rest (good.records 0 c (omega arith)))
build_front_is_read (c ∷ d ∷ cs) rest good =
    let all = c ∷ d ∷ cs in
    let begins : is_several (build_text all ++ rest) ≡ true =
    ap is_several (append_assoc (ended (several_lines (length all))) (records_text all) rest) ∙ several_begins (length all) (records_text all ++ rest) in
    where_true (is_several (build_text all ++ rest)) _ _ begins ∙ several_read c d cs rest good

-- no text of a build is a proper prefix of another's
pub no_build_text_begins : (bs cs : List Content) (rest : Text) → IsBuild bs → IsBuild cs → build_text cs ≡ build_text bs ++ rest → (bs ≡ cs) × (rest ≡ [])
no_build_text_begins bs cs rest b_good c_good begins =
    let same : (bs, rest) ≡ (cs, []) =
    ok_is (bs, rest) (cs, []) (sym (build_front_is_read bs rest b_good) ∙ ap first_build_of (sym begins ∙ sym (append-nil (build_text cs))) ∙ build_front_is_read cs [] c_good) in
    (ap (λ (x : List Content × Text). x.0) same, ap (λ (x : List Content × Text). x.1) same)
