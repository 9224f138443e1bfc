-- Texts of builds, and their parsing.
use Rattle.std.proofs.Common.{◌≡◌, ◌++◌, true, false, None, Some, refl, ap, ◌∙◌, arith, codes, length, List, [], ◌∷◌}
use Rattle.std.proofs.lemmas.List.{length-append}
use Rattle.std.specs.Fmt.{digits}
use Rattle.faults.specs.Bytes.{Text}
use Rattle.hex.proofs.HexLemmas.{length-encode_with}
use Rattle.hex.specs.Hex.{encode_lower, lower_digits}
use Rattle.sha2.proofs.Facts256.{length-sha256}
use Rattle.sha2.specs.Sha256.{sha256}
use Rattle.package_record.specs.Build.{build_text, several_lines, unit_path}
use Rattle.package_record.specs.BuildReading.{is_several, next_fault}
use Rattle.package_record.specs.Content.{Content, NamedFile, ended, header_lines, record_text}
use Rattle.package_record.specs.declared.RecordFault.TheVariants.{BadLine}

abbrev content : Text → Text → List NamedFile → Content
content path name files = record { path = path; name = name; host = 3; claim = record { round = 1; member = 0 }; built = []; run = []; files = files }

abbrev abc : List NamedFile
abc = record { name = codes "x"; bytes = codes "abc" } ∷ []

-- two packages of one group: a file in the first, none in the second
abbrev x : Content
x = content (codes "a/b,-x") (codes "x-1") abc

abbrev y : Content
y = record (content (codes "a/b,-y") (codes "y-1") []) { run = codes "a/b,-x" ∷ [] }

example_unit : unit_path (x ∷ y ∷ []) ≡ codes "a/b"
example_unit = refl

example_alone : unit_path (x ∷ []) ≡ codes "a/b,-x"
example_alone = refl

example_one_is_its_record : build_text (y ∷ []) ≡ record_text y
example_one_is_its_record = refl

example_one_is_not_several : is_several (record_text y) ≡ false
unfolding ended
example_one_is_not_several = refl

example_two_are_several : is_several (build_text (y ∷ y ∷ [])) ≡ true
unfolding ended
example_two_are_several = refl

-- records that may follow a first one, and the first line of those that may not
example_may_follow : next_fault (x ∷ []) y ≡ None
example_may_follow = refl

example_not_ascending : next_fault (y ∷ []) x ≡ Some (BadLine 3)
example_not_ascending = refl

example_other_group : next_fault (x ∷ []) (content (codes "c/d") (codes "d-1") []) ≡ Some (BadLine 3)
example_other_group = refl

example_other_host : next_fault (x ∷ []) (record y { host = 4 }) ≡ Some (BadLine 4)
example_other_host = refl

example_other_claim : next_fault (x ∷ []) (record y { claim = record { round = 1; member = 1 } }) ≡ Some (BadLine 5)
example_other_claim = refl

example_other_built : next_fault (x ∷ []) (record y { built = record { path = codes "e/f"; name = codes "f-1"; digest = [] } ∷ [] }) ≡ Some (BadLine 6)
example_other_built = refl

-- ---- lengths: of the second record, of the first, and of both with the two lines before them

lines_of_y : header_lines y ≡ codes "@dpb 1" ∷ codes "@name y-1" ∷ codes "@comment pkgpath=a/b,-y" ∷ codes "@host 3" ∷ codes "@claim 1.0" ∷ codes "@run a/b,-x" ∷ []
unfolding digits
lines_of_y = refl

example_length : length (record_text y) ≡ 73
unfolding ended digits
example_length = refl

-- the text before the digest of the file, and the line after it
abbrev front : Text
front = codes "@dpb 1" ++ 10 ∷ codes "@name x-1" ++ 10 ∷ codes "@comment pkgpath=a/b,-x" ++ 10 ∷ codes "@host 3" ++ 10 ∷ codes "@claim 1.0" ++ 10 ∷ codes "x" ++ 10 ∷ codes "@sha "

abbrev size_line : Text
size_line = codes "@size 3" ++ 10 ∷ []

text_of_x : record_text x ≡ front ++ ((((encode_lower (sha256 (codes "abc")) ++ 10 ∷ []) ++ size_line) ++ 10 ∷ []) ++ codes "abc")
unfolding ended digits
text_of_x = refl

example_length_with_a_file : length (record_text x) ≡ 144
example_length_with_a_file =
    let end : Text = 10 ∷ [] in
    let digest = encode_lower (sha256 (codes "abc")) in
    let size : length digest ≡ 64 = omega (arith, length-encode_with lower_digits (sha256 (codes "abc")), length-sha256 (codes "abc")) in
    let ended_digest : length (digest ++ end) ≡ 65 = omega (arith, length-append digest end, size) in
    let header : length (((digest ++ end) ++ size_line) ++ end) ≡ 74 = omega (arith, length-append ((digest ++ end) ++ size_line) end, length-append (digest ++ end) size_line, ended_digest) in
    ap length text_of_x
    ∙ omega (arith, length-append front ((((digest ++ end) ++ size_line) ++ end) ++ codes "abc"), length-append (((digest ++ end) ++ size_line) ++ end) (codes "abc"), header)

length_of_lines : length (ended (several_lines 2)) ≡ 19
unfolding ended digits
length_of_lines = refl

example_length_of_both : length (build_text (x ∷ y ∷ [])) ≡ 236
example_length_of_both =
    omega (
      arith,
      length-append (ended (several_lines 2)) (record_text x ++ (record_text y ++ [])),
      length-append (record_text x) (record_text y ++ []),
      length-append (record_text y) [],
      length_of_lines,
      example_length_with_a_file,
      example_length,
    )
