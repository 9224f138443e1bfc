-- The text of a record is parsed as that record.
use Rattle.std.proofs.Common.{◌≡◌, ℕ, zero, suc, ◌+◌, ◌-◌, ◌<◌, ◌≤◌, ◌^◌, true, false, not, eqb, ltb, List, [], ◌∷◌, ◌++◌, length, get_or, take, drop, map, inl, inr, Ok, refl, sym, ap, ◌∙◌, append_assoc, arith, codes, decimal}
use Rattle.std.specs.Char.{is_ascii_digit}
use Rattle.std.specs.List.{All, flat_map, list_all, sum_by}
use Rattle.std.specs.Str.{bytes_eq}
use Rattle.std.proofs.lemmas.Bool.{and_from, and_parts, cases_Bool, le-ltb, not-true}
use Rattle.std.proofs.lemmas.List.{append-nil, length-append}
use Rattle.std.proofs.lemmas.List.Folds.{list_all-append}
use Rattle.std.proofs.lemmas.List.Splits.{join_with_byte-slice_split, slice_split_at}
use Rattle.std.proofs.lemmas.List.Sums.{sum_by-cons}
use Rattle.std.proofs.Math.Seq.{drop-append_seam, take-append_seam}
use Rattle.hex.specs.Hex.{encode_lower}
use Rattle.sha2.specs.Sha256.{sha256}
use Rattle.faults.specs.Bytes.{Text, begins_with, has_byte, is_among}
use Rattle.faults.specs.Pieces.{pieces_at}
use Rattle.claims.specs.PkgPath.{IsPath}
use Rattle.claims.proofs.Pieces.{lacks}
use Rattle.claims.specs.Claim.{IsClaim, greatest_round}
use Rattle.claims.specs.declared.claim.Claim.{Claim}
use Rattle.claims.specs.declared.deps.Dep.{Dep}
use Rattle.package_record.specs.Content.{AreFileNames, Content, IsDep, IsRecord, NamedFile, built_line, claim_line, ended, file_lines, front_lines, header_lines, is_file_name, is_printable, most_bytes, names_of, record_text, run_line}
use Rattle.package_record.specs.Reading.{Header, content_of_parts, files_in, first_of, header_of, total_of, whole_of}
use Rattle.package_record.proofs.Cuts.{some_line}
use Rattle.package_record.proofs.Lacking.{hex_lacks, lacks-append, lacks_all, lacks_failing, name_lacks, path_lacks}
use Rattle.package_record.proofs.ReadFields.{decimal_digits, same_text, where_false, where_true}
use Rattle.package_record.proofs.ReadLines.{Next, all_built_read, all_files_read, all_run_read, front_of, front_read, head_from, heads_from, name_parts}
use Rattle.package_record.proofs.Steps.{ok_is}

-- ---- no line of a header has an LF

pub line_lacks : (line : Text) → has_byte 10 line ≡ false → lacks 10 line ≡ true
line_lacks line none = ap not none

pub number_lacks : (v : ℕ) → v < 2 ^ 64 → has_byte 10 (decimal v) ≡ false
number_lacks v small = lacks_failing is_ascii_digit 10 (decimal v) refl (decimal_digits v small)

claim_lacks : (c : Claim) → IsClaim c → has_byte 10 (claim_line c) ≡ false
claim_lacks c good =
    let most : c.round ≤ greatest_round = good.round.1 in
    let eight : c.member ≤ 8 = omega (arith, good.member) in
    lacks-append 10 (codes "@claim " ++ decimal c.round ++ codes ".") (decimal c.member) (lacks-append 10 (codes "@claim " ++ decimal c.round) (codes ".") (number_lacks c.round (omega arith)) refl) (number_lacks c.member (omega arith))

front_lacks : (c : Content) → IsRecord c → list_all (lacks 10) (front_lines c) ≡ true
front_lacks c good =
    rw (
      name_lacks 10 c.name refl good.names.name,
      path_lacks 10 c.path refl refl refl good.names.path,
      number_lacks c.host (omega (arith, good.host)),
      claim_lacks c.claim good.claim,
    )

built_lacks : (d : Dep) → IsDep d → has_byte 10 (built_line d) ≡ false
built_lacks d good =
    let path = path_lacks 10 d.path refl refl refl good.path in
    let name = name_lacks 10 d.name refl good.name in
    let first = lacks-append 10 (codes "@built " ++ d.path) (codes " ") path refl in
    let second = lacks-append 10 (codes "@built " ++ d.path ++ codes " ") d.name first name in
    let third = lacks-append 10 (codes "@built " ++ d.path ++ codes " " ++ d.name) (codes " ") second refl in
    lacks-append 10 (codes "@built " ++ d.path ++ codes " " ++ d.name ++ codes " ") (encode_lower d.digest) third (hex_lacks 10 d.digest refl refl)

all_built_lack : (ds : List Dep) → All IsDep ds → list_all (lacks 10) (map built_line ds) ≡ true
all_built_lack [] good = refl
all_built_lack (d ∷ ds) good = and_from _ _ (line_lacks (built_line d) (built_lacks d (good 0 d (omega arith)))) (all_built_lack ds (λ k x below. good (suc k) x (omega arith)))

all_run_lack : (paths : List Text) → All IsPath paths → list_all (lacks 10) (map run_line paths) ≡ true
all_run_lack [] good = refl
all_run_lack (path ∷ paths) good =
    and_from _ _ (line_lacks (run_line path) (path_lacks 10 path refl refl refl (good 0 path (omega arith)))) (all_run_lack paths (λ k x below. good (suc k) x (omega arith)))

any_default : (names : List Text) (k : ℕ) (d : Text) → k < length names → get_or names k d ≡ get_or names k []
any_default [] k d below = absurd (omega arith)
any_default (name ∷ names) zero d below = refl
any_default (name ∷ names) (suc k) d below = any_default names k d (omega arith)

-- each name in the list is the name of a file
named : (names : List Text) → AreFileNames names → All (λ name. is_file_name name ≡ true) names
named names good k d below = rw (any_default names k d below) (and_parts _ (not (is_among (take k names) (get_or names k []))) (good k below)).0

all_files_lack : (fs : List NamedFile) → All (λ name. is_file_name name ≡ true) (names_of fs) → length (flat_map (λ f. f.bytes) fs) ≤ most_bytes → list_all (lacks 10) (flat_map file_lines fs) ≡ true
all_files_lack [] good total = refl
all_files_lack (f ∷ fs) good total =
    let sizes = length-append f.bytes (flat_map (λ f. f.bytes) fs) in
    let name = lacks_failing is_printable 10 f.name refl (name_parts f.name (good 0 f.name (omega arith))).0 in
    rw (name, hex_lacks 10 (sha256 f.bytes) refl refl, number_lacks (length f.bytes) (omega (arith, sizes, total)))
    (all_files_lack fs (λ k x below. good (suc k) x (omega arith)) (omega (arith, sizes, total)))

header_lacks : (c : Content) → IsRecord c → length (flat_map (λ f. f.bytes) c.files) ≤ most_bytes → list_all (lacks 10) (header_lines c) ≡ true
header_lacks c good total =
    rw (
      list_all-append (lacks 10) (front_lines c ++ map built_line c.built ++ map run_line c.run) (flat_map file_lines c.files),
      list_all-append (lacks 10) (front_lines c ++ map built_line c.built) (map run_line c.run),
      list_all-append (lacks 10) (front_lines c) (map built_line c.built),
      front_lacks c good,
      all_built_lack c.built good.names.built,
      all_run_lack c.run good.names.run,
      all_files_lack c.files (named (names_of c.files) good.file_names) total,
    )

-- ---- the lines of a text

-- the lines, each ended by LF, and the bytes after them
pub ended_split : (hs : List Text) (bytes : Text) → list_all (lacks 10) hs ≡ true → pieces_at 10 (ended hs ++ bytes) ≡ hs ++ pieces_at 10 bytes
unfolding ended
ended_split [] bytes none = refl
ended_split (h ∷ hs) bytes none =
    let parts = and_parts (lacks 10 h) (list_all (lacks 10) hs) none in
    let behind = flat_map (λ line. line ++ 10 ∷ []) hs in
    ap (pieces_at 10) (append_assoc (h ++ 10 ∷ []) behind bytes ∙ append_assoc h (10 ∷ []) (behind ++ bytes))
    ∙ slice_split_at (λ b. eqb b 10) h 10 (behind ++ bytes) (lacks_all 10 h (not-true (has_byte 10 h) parts.0)) refl
    ∙ ap (λ (ls : List Text). h ∷ ls) (ended_split hs bytes parts.1)

no_word : (word name : Text) → begins_with (codes "@") name ≡ false → begins_with (64 ∷ word) name ≡ false
no_word word [] other = refl
no_word word (c ∷ cs) other =
    elim (cases_Bool (eqb 64 c)) [
      | inl same ↦ absurd (let both = rw same at other in (cc))
      | inr apart ↦ rw apart refl
    ]

-- after the last dependency or path there is a file's name or the empty line
next_entry : (word : Text) (fs : List NamedFile) (ls : List Text) → All (λ name. is_file_name name ≡ true) (names_of fs) → 0 < length ls → Next (64 ∷ word) (flat_map file_lines fs ++ ([] ∷ ls))
next_entry word [] ls good some = record { line = []; more = ls; is = refl; some = some; other = refl }
next_entry word (f ∷ fs) ls good some = record {
  line = f.name;
  more = drop 1 (file_lines f) ++ (flat_map file_lines fs ++ ([] ∷ ls));
  is = refl;
  some = omega arith;
  other = no_word word f.name (name_parts f.name (good 0 f.name (omega arith))).1;
}

next_run : (paths : List Text) (fs : List NamedFile) (ls : List Text) → All (λ name. is_file_name name ≡ true) (names_of fs) → 0 < length ls
    → Next (codes "@built ") (map run_line paths ++ (flat_map file_lines fs ++ ([] ∷ ls)))
next_run [] fs ls good some = next_entry (codes "built ") fs ls good some
next_run (path ∷ paths) fs ls good some = record {
  line = run_line path;
  more = map run_line paths ++ (flat_map file_lines fs ++ ([] ∷ ls));
  is = refl;
  some = omega (arith, length-append (map run_line paths) (flat_map file_lines fs ++ ([] ∷ ls)), length-append (flat_map file_lines fs) ([] ∷ ls));
  other = refl;
}

-- ---- the header

-- the contents of a record's header, whose files begin after n lines
abbrev header_from : Content → ℕ → Header
header_from c n = record { front = front_of c; built = c.built; run = c.run; heads = heads_from n c.files }

grouped : (a b c d e : List Text) → (((a ++ b) ++ c) ++ d) ++ e ≡ a ++ (b ++ (c ++ (d ++ e)))
grouped a b c d e = simp append_assoc

header_read : (c : Content) (bytes : Text) → IsRecord c → length (flat_map (λ f. f.bytes) c.files) ≤ most_bytes → (n : ℕ) × (header_of (ended (header_lines c) ++ 10 ∷ bytes) ≡ Ok (header_from c n, bytes))
unfolding header_of
header_read c bytes good total =
    let behind = pieces_at 10 bytes in
    let some : 0 < length behind = some_line 10 bytes in
    let files = flat_map file_lines c.files ++ ([] ∷ behind) in
    let run = map run_line c.run ++ files in
    let names = named (names_of c.files) good.file_names in
    let next = next_run c.run c.files behind names some in
    let b = all_built_read 5 c.built run good.names.built good.built next in
    let r = all_run_read b.0 c.run files good.names.run good.run (next_entry (codes "run ") c.files behind names some) in
    let f = all_files_read r.0 c.files behind good.file_names total some in
    let lines : pieces_at 10 (ended (header_lines c) ++ 10 ∷ bytes) ≡ front_lines c ++ (map built_line c.built ++ run) =
    ended_split (header_lines c) (10 ∷ bytes) (header_lacks c good total) ∙ grouped (front_lines c) (map built_line c.built) (map run_line c.run) (flat_map file_lines c.files) ([] ∷ behind) in
    let more : 0 < length (map built_line c.built ++ run) = omega (arith, length-append (map built_line c.built) run, ap length next.is) in
    (r.0, rw (lines, front_read c (map built_line c.built ++ run) good.names.name good.names.path good.host good.claim more, b.1, r.1, f.1, join_with_byte-slice_split 10 bytes))

-- ---- the files

sizes_are : (n : ℕ) (fs : List NamedFile) → sum_by (λ h. h.size) (heads_from n fs) ≡ length (flat_map (λ f. f.bytes) fs)
sizes_are n [] = refl
sizes_are n (f ∷ fs) =
    omega (arith, sum_by-cons (λ h. h.size) (head_from n f) (heads_from (n + 3) fs), sizes_are (n + 3) fs, length-append f.bytes (flat_map (λ f. f.bytes) fs))

files_read : (front fs : List NamedFile) (n : ℕ) (rest : Text) → files_in front (heads_from n fs) (flat_map (λ f. f.bytes) fs ++ rest) ≡ Ok (front ++ fs, rest)
unfolding files_in
files_read front [] n rest = ap (λ (fs : List NamedFile). Ok (fs, rest)) (sym (append-nil front))
files_read front (f ∷ fs) n rest =
    let behind = flat_map (λ f. f.bytes) fs ++ rest in
    let bytes = flat_map (λ f. f.bytes) (f ∷ fs) ++ rest in
    let parts : bytes ≡ f.bytes ++ behind = append_assoc f.bytes (flat_map (λ f. f.bytes) fs) rest in
    let body : take (length f.bytes) bytes ≡ f.bytes = ap (take (length f.bytes)) parts ∙ take-append_seam f.bytes behind in
    let left : drop (length f.bytes) bytes ≡ behind = ap (drop (length f.bytes)) parts ∙ drop-append_seam f.bytes behind in
    where_true (bytes_eq (sha256 (take (length f.bytes) bytes)) (sha256 f.bytes)) _ _ (ap (λ (t : Text). bytes_eq (sha256 t) (sha256 f.bytes)) body ∙ same_text (sha256 f.bytes))
    ∙ ap (λ (t : Text). files_in (front ++ file t ∷ []) (heads_from (n + 3) fs) (drop (length f.bytes) bytes)) body
    ∙ ap (files_in (front ++ f ∷ []) (heads_from (n + 3) fs)) left
    ∙ files_read (front ++ f ∷ []) fs (n + 3) rest
    ∙ ap (λ (fs : List NamedFile). Ok (fs, rest)) (append_assoc front (f ∷ []) fs)
  where
    file : Text → NamedFile
    file bytes = record { name = f.name; bytes = bytes }

content_read : (c : Content) (n : ℕ) (rest : Text) → content_of_parts (header_from c n) (flat_map (λ f. f.bytes) c.files ++ rest) ≡ Ok (c, rest)
unfolding content_of_parts
content_read c n rest =
    let bytes = flat_map (λ f. f.bytes) c.files ++ rest in
    let enough : total_of (header_from c n) ≤ length bytes = omega (arith, sizes_are n c.files, length-append (flat_map (λ f. f.bytes) c.files) rest) in
    where_false (ltb (length bytes) (total_of (header_from c n))) _ _ (le-ltb (length bytes) (total_of (header_from c n)) enough) ∙ rw (files_read [] c.files n rest)

-- ---- the whole

text_parts : (c : Content) (rest : Text) → record_text c ++ rest ≡ ended (header_lines c) ++ 10 ∷ (flat_map (λ f. f.bytes) c.files ++ rest)
text_parts c rest = regrouped (ended (header_lines c)) (flat_map (λ f. f.bytes) c.files) rest
  where
    regrouped : (a b c : Text) → a ++ 10 ∷ [] ++ b ++ c ≡ a ++ 10 ∷ (b ++ c)
    regrouped a b c = simp append_assoc

text_length : (c : Content) → length (record_text c) ≡ length (ended (header_lines c)) + 1 + length (flat_map (λ f. f.bytes) c.files)
text_length c =
    omega (arith, length-append (ended (header_lines c) ++ 10 ∷ []) (flat_map (λ f. f.bytes) c.files), length-append (ended (header_lines c)) (10 ∷ []))

front_header : (c : Content) (rest : Text) → IsRecord c → (n : ℕ) × (header_of (record_text c ++ rest) ≡ Ok (header_from c n, flat_map (λ f. f.bytes) c.files ++ rest))
front_header c rest good =
    let short : length (record_text c) ≤ most_bytes = good.fits in
    let h = header_read c (flat_map (λ f. f.bytes) c.files ++ rest) good (omega (arith, text_length c, short)) in
    (h.0, ap header_of (text_parts c rest) ∙ h.1)

-- the text of a record is parsed as that record
pub text_is_read : (c : Content) → IsRecord c → whole_of (record_text c) ≡ Ok c
unfolding whole_of
text_is_read c good =
    let h = front_header c [] good in
    let header : header_of (record_text c) ≡ Ok (header_from c h.0, flat_map (λ f. f.bytes) c.files ++ []) = ap header_of (sym (append-nil (record_text c))) ∙ h.1 in
    where_false (ltb most_bytes (length (record_text c))) _ _ (le-ltb most_bytes (length (record_text c)) good.fits) ∙ rw (header, content_read c h.0 [])

-- also if more text follows
pub front_is_read : (c : Content) (rest : Text) → IsRecord c → first_of (record_text c ++ rest) ≡ Ok (c, rest)
unfolding first_of
front_is_read c rest good =
    let bytes = flat_map (λ f. f.bytes) c.files ++ rest in
    let text = record_text c ++ rest in
    let h = front_header c rest good in
    let short : length (record_text c) ≤ most_bytes = good.fits in
    let within : length text - length bytes + total_of (header_from c h.0) ≤ most_bytes =
    omega (arith, short, length-append (record_text c) rest, length-append (flat_map (λ f. f.bytes) c.files) rest, sizes_are h.0 c.files, text_length c) in
    rw h.1 (where_false (ltb most_bytes (length text - length bytes + total_of (header_from c h.0))) _ _ (le-ltb most_bytes _ within) ∙ content_read c h.0 rest)

-- no text of a record is a proper prefix of another's
pub no_text_begins : (c d : Content) (rest : Text) → IsRecord c → IsRecord d → record_text d ≡ record_text c ++ rest → (c ≡ d) × (rest ≡ [])
no_text_begins c d rest c_good d_good begins =
    let same : (c, rest) ≡ (d, []) = ok_is (c, rest) (d, []) (sym (front_is_read c rest c_good) ∙ ap first_of (sym begins ∙ sym (append-nil (record_text d))) ∙ front_is_read d [] d_good) in
    (ap (λ (x : Content × Text). x.0) same, ap (λ (x : Content × Text). x.1) same)
