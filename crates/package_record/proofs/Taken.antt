-- What a parser has taken from the front of the lines.
use Rattle.std.proofs.Common.{◌≡◌, ℕ, ◌+◌, ◌<◌, ◌≤◌, Bool, true, false, cond, not, ◌&&◌, ◌||◌, ◌^◌, leb, List, [], ◌∷◌, ◌++◌, length, get_or, take, drop, eqb, ltb, ◌==◌, option_map, Option, Some, None, Result, Ok, Err, refl, sym, ap, subst, ◌∙◌, append_assoc, arith, inl, inr, codes, decimal}
use Rattle.std.specs.Char.{is_ascii_digit}
use Rattle.std.specs.List.{after_first, before_first, list_all, position_or_len}
use Rattle.std.specs.Str.{bytes_eq}
use Rattle.std.specs.Str.Parse.{digits_value}
use Rattle.std.proofs.lemmas.Bool.{and_parts, and_from, eqb-true, le-leb, leb-true, ltb-true, ltb-false}
use Rattle.std.proofs.lemmas.Fmt.{decimal-digits_value}
use Rattle.std.proofs.lemmas.Str.Parse.{IsDigitsTest, numerals_by_value}
use Rattle.std.proofs.lemmas.List.{take-append-drop}
use Rattle.std.proofs.lemmas.List.Sums.{prefix_len_stops, split_at_first}
use Rattle.std.proofs.lemmas.Slice.Eq.{bytes_eq-Decides}
use Rattle.hex.specs.Hex.{decode_sized, encode_lower}
use Rattle.faults.specs.Bytes.{Text, begins_with, is_empty}
use Rattle.claims.specs.PkgName.{IsName, name_of}
use Rattle.claims.specs.PkgPath.{IsPath, path_of}
use Rattle.claims.specs.declared.deps.Dep.{Dep}
use Rattle.package_record.specs.Content.{built_line, is_next_name, most_bytes, run_line}
use Rattle.package_record.specs.Reading.{Head, Place, ◌>>=◌, built_at, cut_in, dependency_in, digest_in, entry_at, field_at, head_at, if_lower, is_above, is_itself, is_number, last_of, line_at, line_in, name_in, path_in, run_at, size_in}
use Rattle.package_record.specs.declared.RecordFault.TheVariants.{BadFileName, BadLine, TooLarge}
use Rattle.package_record.proofs.Steps.{bind_ok, none_some, ok_is, refusal_ok, some_is, test_ok, ways}

line_in_taken : (n : ℕ) (ls : List Text) (x : Text × Place) → line_in n ls ≡ Ok x → (ls ≡ x.0 ∷ x.1.lines) × (x.1.passed ≡ n + 1) × (0 < length x.1.lines)
line_in_taken n [] x e = absurd cc
line_in_taken n (l ∷ []) x e = absurd cc
line_in_taken n (l ∷ m ∷ ms) x e =
    subst (λ (y : Text × Place). (l ∷ m ∷ ms ≡ y.0 ∷ y.1.lines) × (y.1.passed ≡ n + 1) × (0 < length y.1.lines))
    (ok_is (l, record { passed = n + 1; lines = m ∷ ms }) x e) (refl, refl, omega arith)

pub line_taken : (p : Place) (x : Text × Place) → line_at p ≡ Ok x → (p.lines ≡ x.0 ∷ x.1.lines) × (x.1.passed ≡ p.passed + 1) × (0 < length x.1.lines)
unfolding line_at
line_taken p x e = line_in_taken p.passed p.lines x e

-- a line that begins with a word is the word followed by the rest
pub begun : (word line : Text) → begins_with word line ≡ true → line ≡ word ++ drop (length word) line
begun word line e =
    let same : word ≡ take (length word) line = (bytes_eq-Decides word (take (length word) line)).0 e in
    sym (take-append-drop (length word) line) ∙ ap (λ (t : Text). t ++ drop (length word) line) (sym same)

pub field_taken : (word : Text) (p : Place) (x : Text × Place) → field_at word p ≡ Ok x → (p.lines ≡ (word ++ x.0) ∷ x.1.lines) × (x.1.passed ≡ p.passed + 1) × (0 < length x.1.lines)
unfolding field_at
field_taken word p x e =
    let a = bind_ok (line_at p) (λ line. cond (begins_with word line.0) (Ok (drop (length word) line.0, line.1)) (Err (BadLine line.1.passed))) x e in
    let t = test_ok (begins_with word a.0.0) (BadLine a.0.1.passed) (Ok (drop (length word) a.0.0, a.0.1)) x a.2 in
    let l = line_taken p a.0 a.1 in
    subst (λ (y : Text × Place). (p.lines ≡ (word ++ y.0) ∷ y.1.lines) × (y.1.passed ≡ p.passed + 1) × (0 < length y.1.lines))
    (ok_is (drop (length word) a.0.0, a.0.1) x t.1) (l.0 ∙ ap (λ (w : Text). w ∷ a.0.1.lines) (begun word a.0.0 t.0), l.1, l.2)

pub cut_taken : (byte n : ℕ) (text : Text) (x : Text × Text) → cut_in byte n text ≡ Ok x → text ≡ x.0 ++ byte ∷ x.1
unfolding cut_in
cut_taken byte n text x e =
    let p = λ (b : ℕ). b == byte in
    let at = position_or_len p text in
    let t = test_ok (ltb at (length text)) (BadLine n) (Ok (before_first p text, after_first p text)) x e in
    let here : get_or text at 0 ≡ byte = eqb-true _ _ (not_false _ (prefix_len_stops (λ b. not (p b)) text 0 (ltb-true _ _ t.0))) in
    subst (λ (y : Text × Text). text ≡ y.0 ++ byte ∷ y.1) (ok_is (before_first p text, after_first p text) x t.1)
    (split_at_first p text 0 (ltb-true _ _ t.0) ∙ ap (λ b. before_first p text ++ b ∷ after_first p text) here)
  where
    not_false : (b : Bool) → not b ≡ false → b ≡ true
    not_false true e = refl
    not_false false e = absurd cc

itself_taken : {F : Type 0} (r : Result Text F) (text : Text) → is_itself r text ≡ true → r ≡ Ok text
itself_taken (Ok t) text e = ap Ok ((bytes_eq-Decides t text).0 e)
itself_taken (Err d) text e = absurd cc

pub path_taken : (n : ℕ) (text t : Text) → path_in n text ≡ Ok t → (text ≡ t) × IsPath t
unfolding path_in
path_taken n text t e =
    let g = test_ok (is_itself (path_of text) text) (BadLine n) (Ok text) t e in
    subst (λ (y : Text). (text ≡ y) × IsPath y) (ok_is text t g.1) (refl, itself_taken (path_of text) text g.0)

pub name_taken : (n : ℕ) (text t : Text) → name_in n text ≡ Ok t → (text ≡ t) × IsName t
unfolding name_in
name_taken n text t e =
    let g = test_ok (is_itself (name_of text) text) (BadLine n) (Ok text) t e in
    subst (λ (y : Text). (text ≡ y) × IsName y) (ok_is text t g.1) (refl, itself_taken (name_of text) text g.0)

if_lower_taken : {F : Type 0} (n : ℕ) (text : Text) (r : Result (List ℕ) F) (d : List ℕ) → if_lower n text r ≡ Ok d → (r ≡ Ok d) × (encode_lower d ≡ text)
if_lower_taken n text (Ok c) d e =
    let g = test_ok (bytes_eq (encode_lower c) text) (BadLine n) (Ok c) d e in
    (ap Ok (ok_is c d g.1), ap encode_lower (sym (ok_is c d g.1)) ∙ (bytes_eq-Decides (encode_lower c) text).0 g.0)
if_lower_taken n text (Err f) d e = absurd cc

pub digest_taken : (n : ℕ) (text : Text) (d : List ℕ) → digest_in n text ≡ Ok d → (decode_sized text 32 ≡ Ok d) × (text ≡ encode_lower d)
unfolding digest_in
digest_taken n text d e = let g = if_lower_taken n text (decode_sized text 32) d e in (g.0, sym g.1)

-- ---- lines of dependencies

dependency_parts : (n : ℕ) (text : Text) (d : Dep) → dependency_in n text ≡ Ok d
    → (text ≡ d.path ++ 32 ∷ (d.name ++ 32 ∷ encode_lower d.digest)) × IsPath d.path × IsName d.name × (decode_sized (encode_lower d.digest) 32 ≡ Ok d.digest)
unfolding dependency_in
dependency_parts n text d e =
    let a = bind_ok (cut_in 32 n text) (λ path. path_in n path.0 >>= λ p. cut_in 32 n path.1 >>= λ name. name_in n name.0 >>= λ m. digest_in n name.1 >>= λ digest. Ok (dep p m digest)) d e in
    let b = bind_ok (path_in n a.0.0) (λ p. cut_in 32 n a.0.1 >>= λ name. name_in n name.0 >>= λ m. digest_in n name.1 >>= λ digest. Ok (dep p m digest)) d a.2 in
    let f = bind_ok (cut_in 32 n a.0.1) (λ name. name_in n name.0 >>= λ m. digest_in n name.1 >>= λ digest. Ok (dep b.0 m digest)) d b.2 in
    let g = bind_ok (name_in n f.0.0) (λ m. digest_in n f.0.1 >>= λ digest. Ok (dep b.0 m digest)) d f.2 in
    let h = bind_ok (digest_in n f.0.1) (λ digest. Ok (dep b.0 g.0 digest)) d g.2 in
    let path = path_taken n a.0.0 b.0 b.1 in
    let name = name_taken n f.0.0 g.0 g.1 in
    let digest = digest_taken n f.0.1 h.0 h.1 in
    let whole : text ≡ b.0 ++ 32 ∷ (g.0 ++ 32 ∷ encode_lower h.0) =
    cut_taken 32 n text a.0 a.1 ∙ ap (λ (t : Text). t ++ 32 ∷ a.0.1) path.0
    ∙ ap (λ (t : Text). b.0 ++ 32 ∷ t) (cut_taken 32 n a.0.1 f.0 f.1 ∙ ap (λ (t : Text). t ++ 32 ∷ f.0.1) name.0 ∙ ap (λ (t : Text). g.0 ++ 32 ∷ t) digest.1) in
    let made : (text ≡ b.0 ++ 32 ∷ (g.0 ++ 32 ∷ encode_lower h.0)) × IsPath b.0 × IsName g.0 × (decode_sized (encode_lower h.0) 32 ≡ Ok h.0) =
    (whole, path.1, name.1, ap (λ (t : Text). decode_sized t 32) (sym digest.1) ∙ digest.0) in
    subst (λ (d : Dep). (text ≡ d.path ++ 32 ∷ (d.name ++ 32 ∷ encode_lower d.digest)) × IsPath d.path × IsName d.name × (decode_sized (encode_lower d.digest) 32 ≡ Ok d.digest))
    (ok_is (dep b.0 g.0 h.0) d h.2) made
  where
    dep : Text → Text → List ℕ → Dep
    dep path name digest = record { path = path; name = name; digest = digest }

regroup : (word path name digest : Text) → word ++ (path ++ 32 ∷ (name ++ 32 ∷ digest)) ≡ word ++ path ++ 32 ∷ [] ++ name ++ 32 ∷ [] ++ digest
regroup word path name digest = sym (simp append_assoc)

-- what holds of a dependency that was parsed
pub record IsRead (d : Dep) : Type 0 where
  pub path : IsPath d.path
  pub name : IsName d.name
  pub digest : decode_sized (encode_lower d.digest) 32 ≡ Ok d.digest

pub built_taken : (deps : List Dep) (p : Place) (d : Dep) (q : Place) → built_at deps p ≡ Ok (Some d, q)
    → (p.lines ≡ built_line d ∷ q.lines) × IsRead d × (is_above (option_map (λ before. before.path) (last_of deps)) d.path ≡ true) × (q.passed ≡ p.passed + 1)
unfolding built_at
built_taken deps p d q e =
    let word = codes "@built " in
    let paths = option_map (λ (before : Dep). before.path) (last_of deps) in
    let a = bind_ok (line_at p) (λ line. cond (begins_with word line.0) (dependency_in line.1.passed (drop 7 line.0) >>= λ d. cond (is_above paths d.path) (Ok (Some d, line.1)) (Err (BadLine line.1.passed))) (Ok (None, p))) (Some d, q) e in
    let l = line_taken p a.0 a.1 in
    elim (ways (begins_with word a.0.0) (dependency_in a.0.1.passed (drop 7 a.0.0) >>= λ d. cond (is_above paths d.path) (Ok (Some d, a.0.1)) (Err (BadLine a.0.1.passed))) (Ok (None, p)) (Some d, q) a.2) [
      | inl w ↦
          let b = bind_ok (dependency_in a.0.1.passed (drop 7 a.0.0)) (λ d. cond (is_above paths d.path) (Ok (Some d, a.0.1)) (Err (BadLine a.0.1.passed))) (Some d, q) w.1 in
          let t = test_ok (is_above paths b.0.path) (BadLine a.0.1.passed) (Ok (Some b.0, a.0.1)) (Some d, q) b.2 in
          let parts = dependency_parts a.0.1.passed (drop 7 a.0.0) b.0 b.1 in
          let text : a.0.0 ≡ built_line b.0 = begun word a.0.0 w.0 ∙ ap (λ (t : Text). word ++ t) parts.0 ∙ regroup word b.0.path b.0.name (encode_lower b.0.digest) in
          let same = ok_is (Some b.0, a.0.1) (Some d, q) t.1 in
          let at_d : b.0 ≡ d = some_is b.0 d (ap (λ (x : Option Dep × Place). x.0) same) in
          let at_q : a.0.1 ≡ q = ap (λ (x : Option Dep × Place). x.1) same in
          subst (λ (q : Place). (p.lines ≡ built_line d ∷ q.lines) × IsRead d × (is_above paths d.path ≡ true) × (q.passed ≡ p.passed + 1)) at_q
          (subst (λ (d : Dep). (p.lines ≡ built_line d ∷ a.0.1.lines) × IsRead d × (is_above paths d.path ≡ true) × (a.0.1.passed ≡ p.passed + 1)) at_d
          (l.0 ∙ ap (λ (t : Text). t ∷ a.0.1.lines) text, record { path = parts.1; name = parts.2; digest = parts.3 }, t.0, l.1))
      | inr w ↦ absurd (none_some d (ap (λ (x : Option Dep × Place). x.0) (ok_is (None, p) (Some d, q) w.1)))
    ]

pub run_taken : (paths : List Text) (p : Place) (t : Text) (q : Place) → run_at paths p ≡ Ok (Some t, q)
    → (p.lines ≡ run_line t ∷ q.lines) × IsPath t × (is_above (last_of paths) t ≡ true) × (q.passed ≡ p.passed + 1)
unfolding run_at
run_taken paths p t q e =
    let word = codes "@run " in
    let a = bind_ok (line_at p) (λ line. cond (begins_with word line.0) (path_in line.1.passed (drop 5 line.0) >>= λ path. cond (is_above (last_of paths) path) (Ok (Some path, line.1)) (Err (BadLine line.1.passed))) (Ok (None, p))) (Some t, q) e in
    let l = line_taken p a.0 a.1 in
    elim (ways (begins_with word a.0.0) (path_in a.0.1.passed (drop 5 a.0.0) >>= λ path. cond (is_above (last_of paths) path) (Ok (Some path, a.0.1)) (Err (BadLine a.0.1.passed))) (Ok (None, p)) (Some t, q) a.2) [
      | inl w ↦
          let b = bind_ok (path_in a.0.1.passed (drop 5 a.0.0)) (λ path. cond (is_above (last_of paths) path) (Ok (Some path, a.0.1)) (Err (BadLine a.0.1.passed))) (Some t, q) w.1 in
          let g = test_ok (is_above (last_of paths) b.0) (BadLine a.0.1.passed) (Ok (Some b.0, a.0.1)) (Some t, q) b.2 in
          let path = path_taken a.0.1.passed (drop 5 a.0.0) b.0 b.1 in
          let text : a.0.0 ≡ run_line b.0 = begun word a.0.0 w.0 ∙ ap (λ (t : Text). word ++ t) path.0 in
          let same = ok_is (Some b.0, a.0.1) (Some t, q) g.1 in
          let at_t : b.0 ≡ t = some_is b.0 t (ap (λ (x : Option Text × Place). x.0) same) in
          let at_q : a.0.1 ≡ q = ap (λ (x : Option Text × Place). x.1) same in
          subst (λ (q : Place). (p.lines ≡ run_line t ∷ q.lines) × IsPath t × (is_above (last_of paths) t ≡ true) × (q.passed ≡ p.passed + 1)) at_q
          (subst (λ (t : Text). (p.lines ≡ run_line t ∷ a.0.1.lines) × IsPath t × (is_above (last_of paths) t ≡ true) × (a.0.1.passed ≡ p.passed + 1)) at_t
          (l.0 ∙ ap (λ (t : Text). t ∷ a.0.1.lines) text, path.1, g.0, l.1))
      | inr w ↦ absurd (none_some t (ap (λ (x : Option Text × Place). x.0) (ok_is (None, p) (Some t, q) w.1)))
    ]

-- ---- the lines of a file

-- the test of digits, one after the other
pub digits_test : IsDigitsTest (λ ds. list_all is_ascii_digit ds ≡ true)
digits_test = record {
  empty = refl;
  parts = λ c cs p. let both = and_parts (is_ascii_digit c) (list_all is_ascii_digit cs) p in let range = and_parts (leb 48 c) (leb c 57) both.0 in ((leb-true _ _ range.0, leb-true _ _ range.1), both.1);
  more = λ c cs k d. and_from (is_ascii_digit c) (list_all is_ascii_digit cs) (and_from (leb 48 c) (leb c 57) (le-leb _ _ k.0) (le-leb _ _ k.1)) d;
}

pub number_text : (text : Text) → is_number text ≡ true → digits_value 10 text < 2 ^ 64 → decimal (digits_value 10 text) ≡ text
number_text text e lt =
    let parts = and_parts (list_all is_ascii_digit text && not (is_empty text)) (eqb (length text) 1 || not (begins_with (codes "0") text)) e in
    let front = and_parts (list_all is_ascii_digit text) (not (is_empty text)) parts.0 in
    decimal-digits_value (numerals_by_value (λ ds. list_all is_ascii_digit ds ≡ true) digits_test) text front.0 (some_byte text front.1) (first_zero text parts.1) lt
  where
    some_byte : (text : Text) → not (is_empty text) ≡ true → 0 < length text
    some_byte [] e = absurd cc
    some_byte (c ∷ cs) e = omega arith

    or_left : (a b : Bool) → (a || b) ≡ true → b ≡ false → a ≡ true
    or_left true b e f = refl
    or_left false b e f = absurd cc

    begins_zero : (c : ℕ) (cs : Text) → c ≡ 48 → not (begins_with (codes "0") (c ∷ cs)) ≡ false
    begins_zero c cs zero = rw zero refl

    first_zero : (text : Text) → (eqb (length text) 1 || not (begins_with (codes "0") text)) ≡ true → get_or text 0 0 ≡ 48 → length text ≡ 1
    first_zero [] e zero = absurd (omega arith)
    first_zero (c ∷ cs) e zero = eqb-true _ _ (or_left (eqb (length (c ∷ cs)) 1) (not (begins_with (codes "0") (c ∷ cs))) e (begins_zero c cs zero))

size_taken : (total n : ℕ) (text : Text) (v : ℕ) → size_in total n text ≡ Ok v → (text ≡ decimal v) × (total + v ≤ most_bytes)
unfolding size_in
size_taken total n text v e =
    let a = refusal_ok (not (is_number text)) (BadLine n) (cond (ltb most_bytes (total + digits_value 10 text)) (Err TooLarge) (Ok (digits_value 10 text))) v e in
    let b = refusal_ok (ltb most_bytes (total + digits_value 10 text)) TooLarge (Ok (digits_value 10 text)) v a.1 in
    let small = ltb-false _ _ b.0 in
    subst (λ (v : ℕ). (text ≡ decimal v) × (total + v ≤ most_bytes)) (ok_is (digits_value 10 text) v b.1) (sym (number_text text (not_false (is_number text) a.0) (omega arith)), omega arith)
  where
    not_false : (b : Bool) → not b ≡ false → b ≡ true
    not_false true e = refl
    not_false false e = absurd cc

-- what holds of a head that was parsed, after these names and this total
pub record IsHead (names : List Text) (before : ℕ) (h : Head) : Type 0 where
  pub name : is_next_name names h.name ≡ true
  pub digest : decode_sized (encode_lower h.digest) 32 ≡ Ok h.digest
  pub total : before + h.size ≤ most_bytes

abbrev pub head_lines : Head → List Text
head_lines h = h.name ∷ (codes "@sha " ++ encode_lower h.digest) ∷ (codes "@size " ++ decimal h.size) ∷ []

head_taken : (total : ℕ) (name : Text) (p : Place) (h : Head) (q : Place) → head_at total name p ≡ Ok (Some h, q)
    → (p.lines ≡ (codes "@sha " ++ encode_lower h.digest) ∷ (codes "@size " ++ decimal h.size) ∷ q.lines) × (h.name ≡ name) × (decode_sized (encode_lower h.digest) 32 ≡ Ok h.digest) × (total + h.size ≤ most_bytes) × (q.passed ≡ p.passed + 2) × (h.line ≡ p.passed + 1)
unfolding head_at
head_taken total name p h q e =
    let a = bind_ok (field_at (codes "@sha ") p) (λ sha. digest_in sha.1.passed sha.0 >>= λ digest. field_at (codes "@size ") sha.1 >>= λ size. size_in total size.1.passed size.0 >>= λ n. Ok (Some (make digest n sha.1.passed), size.1)) (Some h, q) e in
    let b = bind_ok (digest_in a.0.1.passed a.0.0) (λ digest. field_at (codes "@size ") a.0.1 >>= λ size. size_in total size.1.passed size.0 >>= λ n. Ok (Some (make digest n a.0.1.passed), size.1)) (Some h, q) a.2 in
    let f = bind_ok (field_at (codes "@size ") a.0.1) (λ size. size_in total size.1.passed size.0 >>= λ n. Ok (Some (make b.0 n a.0.1.passed), size.1)) (Some h, q) b.2 in
    let g = bind_ok (size_in total f.0.1.passed f.0.0) (λ n. Ok (Some (make b.0 n a.0.1.passed), f.0.1)) (Some h, q) f.2 in
    let sha = field_taken (codes "@sha ") p a.0 a.1 in
    let digest = digest_taken a.0.1.passed a.0.0 b.0 b.1 in
    let second = field_taken (codes "@size ") a.0.1 f.0 f.1 in
    let size = size_taken total f.0.1.passed f.0.0 g.0 g.1 in
    let lines : p.lines ≡ (codes "@sha " ++ encode_lower b.0) ∷ (codes "@size " ++ decimal g.0) ∷ f.0.1.lines =
    sha.0 ∙ ap (λ (ls : List Text). (codes "@sha " ++ a.0.0) ∷ ls) (second.0 ∙ ap (λ (t : Text). (codes "@size " ++ t) ∷ f.0.1.lines) size.0)
    ∙ ap (λ (t : Text). (codes "@sha " ++ t) ∷ (codes "@size " ++ decimal g.0) ∷ f.0.1.lines) digest.1 in
    let same = ok_is (Some (make b.0 g.0 a.0.1.passed), f.0.1) (Some h, q) g.2 in
    let at_h : make b.0 g.0 a.0.1.passed ≡ h = some_is _ h (ap (λ (x : Option Head × Place). x.0) same) in
    let at_q : f.0.1 ≡ q = ap (λ (x : Option Head × Place). x.1) same in
    subst (λ (q : Place). (p.lines ≡ (codes "@sha " ++ encode_lower h.digest) ∷ (codes "@size " ++ decimal h.size) ∷ q.lines) × (h.name ≡ name) × (decode_sized (encode_lower h.digest) 32 ≡ Ok h.digest) × (total + h.size ≤ most_bytes) × (q.passed ≡ p.passed + 2) × (h.line ≡ p.passed + 1)) at_q
    (subst (λ (h : Head). (p.lines ≡ (codes "@sha " ++ encode_lower h.digest) ∷ (codes "@size " ++ decimal h.size) ∷ f.0.1.lines) × (h.name ≡ name) × (decode_sized (encode_lower h.digest) 32 ≡ Ok h.digest) × (total + h.size ≤ most_bytes) × (f.0.1.passed ≡ p.passed + 2) × (h.line ≡ p.passed + 1)) at_h
    (lines, refl, ap (λ (t : Text). decode_sized t 32) (sym digest.1) ∙ digest.0, size.1, omega (arith, sha.1, second.1), sha.1))
  where
    make : List ℕ → ℕ → ℕ → Head
    make digest size line = record { name = name; digest = digest; size = size; line = line }

pub entry_taken : (names : List Text) (total : ℕ) (p : Place) (h : Head) (q : Place) → entry_at names total p ≡ Ok (Some h, q)
    → (p.lines ≡ head_lines h ++ q.lines) × IsHead names total h
unfolding entry_at
entry_taken names total p h q e =
    let go = λ (line : Text × Place). cond (is_empty line.0) (Ok (None, line.1)) (cond (begins_with (codes "@") line.0) (Err (BadLine line.1.passed)) (cond (is_next_name names line.0) (head_at total line.0 line.1) (Err (BadFileName line.1.passed)))) in
    let a = bind_ok (line_at p) go (Some h, q) e in
    let l = line_taken p a.0 a.1 in
    elim (ways (is_empty a.0.0) (Ok (None, a.0.1)) (cond (begins_with (codes "@") a.0.0) (Err (BadLine a.0.1.passed)) (cond (is_next_name names a.0.0) (head_at total a.0.0 a.0.1) (Err (BadFileName a.0.1.passed)))) (Some h, q) a.2) [
      | inl w ↦ absurd (none_some h (ap (λ (x : Option Head × Place). x.0) (ok_is (None, a.0.1) (Some h, q) w.1)))
      | inr w ↦
          let b = refusal_ok (begins_with (codes "@") a.0.0) (BadLine a.0.1.passed) (cond (is_next_name names a.0.0) (head_at total a.0.0 a.0.1) (Err (BadFileName a.0.1.passed))) (Some h, q) w.1 in
          let g = test_ok (is_next_name names a.0.0) (BadFileName a.0.1.passed) (head_at total a.0.0 a.0.1) (Some h, q) b.1 in
          let t = head_taken total a.0.0 a.0.1 h q g.1 in (
            l.0 ∙ ap (λ (ls : List Text). a.0.0 ∷ ls) t.0 ∙ ap (λ (n : Text). n ∷ (codes "@sha " ++ encode_lower h.digest) ∷ (codes "@size " ++ decimal h.size) ∷ q.lines) (sym t.1),
            record { name = rw t.1 g.0; digest = t.2; total = t.3 },
          )
    ]

-- ---- the end of repeated lines

pub built_stops : (deps : List Dep) (p q : Place) → built_at deps p ≡ Ok (None, q) → p.lines ≡ q.lines
unfolding built_at
built_stops deps p q e =
    let word = codes "@built " in
    let paths = option_map (λ (before : Dep). before.path) (last_of deps) in
    let a = bind_ok (line_at p) (λ line. cond (begins_with word line.0) (dependency_in line.1.passed (drop 7 line.0) >>= λ d. cond (is_above paths d.path) (Ok (Some d, line.1)) (Err (BadLine line.1.passed))) (Ok (None, p))) (None, q) e in
    elim (ways (begins_with word a.0.0) (dependency_in a.0.1.passed (drop 7 a.0.0) >>= λ d. cond (is_above paths d.path) (Ok (Some d, a.0.1)) (Err (BadLine a.0.1.passed))) (Ok (None, p)) (None, q) a.2) [
      | inl w ↦
          let b = bind_ok (dependency_in a.0.1.passed (drop 7 a.0.0)) (λ d. cond (is_above paths d.path) (Ok (Some d, a.0.1)) (Err (BadLine a.0.1.passed))) (None, q) w.1 in
          let t = test_ok (is_above paths b.0.path) (BadLine a.0.1.passed) (Ok (Some b.0, a.0.1)) (None, q) b.2 in
          absurd (none_some b.0 (sym (ap (λ (x : Option Dep × Place). x.0) (ok_is (Some b.0, a.0.1) (None, q) t.1))))
      | inr w ↦ ap (λ (x : Option Dep × Place). x.1.lines) (ok_is (None, p) (None, q) w.1)
    ]

pub run_stops : (paths : List Text) (p q : Place) → run_at paths p ≡ Ok (None, q) → p.lines ≡ q.lines
unfolding run_at
run_stops paths p q e =
    let word = codes "@run " in
    let a = bind_ok (line_at p) (λ line. cond (begins_with word line.0) (path_in line.1.passed (drop 5 line.0) >>= λ path. cond (is_above (last_of paths) path) (Ok (Some path, line.1)) (Err (BadLine line.1.passed))) (Ok (None, p))) (None, q) e in
    elim (ways (begins_with word a.0.0) (path_in a.0.1.passed (drop 5 a.0.0) >>= λ path. cond (is_above (last_of paths) path) (Ok (Some path, a.0.1)) (Err (BadLine a.0.1.passed))) (Ok (None, p)) (None, q) a.2) [
      | inl w ↦
          let b = bind_ok (path_in a.0.1.passed (drop 5 a.0.0)) (λ path. cond (is_above (last_of paths) path) (Ok (Some path, a.0.1)) (Err (BadLine a.0.1.passed))) (None, q) w.1 in
          let t = test_ok (is_above (last_of paths) b.0) (BadLine a.0.1.passed) (Ok (Some b.0, a.0.1)) (None, q) b.2 in
          absurd (none_some b.0 (sym (ap (λ (x : Option Text × Place). x.0) (ok_is (Some b.0, a.0.1) (None, q) t.1))))
      | inr w ↦ ap (λ (x : Option Text × Place). x.1.lines) (ok_is (None, p) (None, q) w.1)
    ]

head_never_stops : (total : ℕ) (name : Text) (p q : Place) → head_at total name p ≡ Ok (None, q) → ⊥
unfolding head_at
head_never_stops total name p q e =
    let a = bind_ok (field_at (codes "@sha ") p) (λ sha. digest_in sha.1.passed sha.0 >>= λ digest. field_at (codes "@size ") sha.1 >>= λ size. size_in total size.1.passed size.0 >>= λ n. Ok (Some (make digest n sha.1.passed), size.1)) (None, q) e in
    let b = bind_ok (digest_in a.0.1.passed a.0.0) (λ digest. field_at (codes "@size ") a.0.1 >>= λ size. size_in total size.1.passed size.0 >>= λ n. Ok (Some (make digest n a.0.1.passed), size.1)) (None, q) a.2 in
    let f = bind_ok (field_at (codes "@size ") a.0.1) (λ size. size_in total size.1.passed size.0 >>= λ n. Ok (Some (make b.0 n a.0.1.passed), size.1)) (None, q) b.2 in
    let g = bind_ok (size_in total f.0.1.passed f.0.0) (λ n. Ok (Some (make b.0 n a.0.1.passed), f.0.1)) (None, q) f.2 in
    none_some (make b.0 g.0 a.0.1.passed) (sym (ap (λ (x : Option Head × Place). x.0) (ok_is (Some (make b.0 g.0 a.0.1.passed), f.0.1) (None, q) g.2)))
  where
    make : List ℕ → ℕ → ℕ → Head
    make digest size line = record { name = name; digest = digest; size = size; line = line }

nothing : (text : Text) → is_empty text ≡ true → text ≡ []
nothing [] e = refl
nothing (b ∷ text) e = absurd cc

pub entry_stops : (names : List Text) (total : ℕ) (p q : Place) → entry_at names total p ≡ Ok (None, q) → (p.lines ≡ [] ∷ q.lines) × (0 < length q.lines)
unfolding entry_at
entry_stops names total p q e =
    let go = λ (line : Text × Place). cond (is_empty line.0) (Ok (None, line.1)) (cond (begins_with (codes "@") line.0) (Err (BadLine line.1.passed)) (cond (is_next_name names line.0) (head_at total line.0 line.1) (Err (BadFileName line.1.passed)))) in
    let a = bind_ok (line_at p) go (None, q) e in
    let l = line_taken p a.0 a.1 in
    elim (ways (is_empty a.0.0) (Ok (None, a.0.1)) (cond (begins_with (codes "@") a.0.0) (Err (BadLine a.0.1.passed)) (cond (is_next_name names a.0.0) (head_at total a.0.0 a.0.1) (Err (BadFileName a.0.1.passed)))) (None, q) a.2) [
      | inl w ↦
          let at_q : a.0.1 ≡ q = ap (λ (x : Option Head × Place). x.1) (ok_is (None, a.0.1) (None, q) w.1) in
          subst (λ (q : Place). (p.lines ≡ [] ∷ q.lines) × (0 < length q.lines)) at_q (l.0 ∙ ap (λ (t : Text). t ∷ a.0.1.lines) (nothing a.0.0 w.0), l.2)
      | inr w ↦
          let b = refusal_ok (begins_with (codes "@") a.0.0) (BadLine a.0.1.passed) (cond (is_next_name names a.0.0) (head_at total a.0.0 a.0.1) (Err (BadFileName a.0.1.passed))) (None, q) w.1 in
          let g = test_ok (is_next_name names a.0.0) (BadFileName a.0.1.passed) (head_at total a.0.0 a.0.1) (None, q) b.1 in
          absurd (head_never_stops total a.0.0 a.0.1 q g.1)
    ]
