-- A text that is parsed as a build is that of the build.
use Rattle.std.proofs.Common.{◌≡◌, ℕ, zero, suc, ◌-◌, ◌<◌, ◌≤◌, true, cond, ltb, List, [], ◌∷◌, ◌++◌, length, drop, Option, None, Some, Result, Ok, Err, refl, sym, ap, subst, ◌∙◌, append_assoc, arith, codes, decimal, inl, inr}
use Rattle.std.specs.List.{All, join_with_byte}
use Rattle.std.proofs.lemmas.Bool.{ltb-false}
use Rattle.std.proofs.lemmas.List.{append-nil, length-append}
use Rattle.std.proofs.lemmas.List.Elements.{All-cons, All-nil}
use Rattle.std.proofs.lemmas.List.Splits.{join_with_byte-slice_split}
use Rattle.faults.specs.Answers.{map_ok, unless_fault}
use Rattle.faults.specs.Bytes.{Text, is_empty}
use Rattle.faults.specs.Pieces.{pieces_at}
use Rattle.package_record.specs.Build.{IsBuild, build_text, most_packages, records_text, several_lines}
use Rattle.package_record.specs.BuildReading.{alone, first_build_of, is_several, next_fault, next_of, packages_at, packages_of, records_in, several_of, whole_build_of, whole_several_of}
use Rattle.package_record.specs.Content.{Content, IsRecord, ended, most_bytes, record_text}
use Rattle.package_record.specs.Reading.{Place, ◌>>=◌, field_at, first_of, line_at, number_in, whole_of}
use Rattle.package_record.specs.declared.RecordFault.{RecordFault}
use Rattle.package_record.specs.declared.RecordFault.TheVariants.{TooLarge, Trailing}
use Rattle.package_record.proofs.Following.{AllFollow, are_alike}
use Rattle.package_record.proofs.BuildTexts.{lines_of_several, text_parts}
use Rattle.package_record.proofs.Steps.{bind_ok, ok_is, refusal_ok, test_ok, ways}
use Rattle.package_record.proofs.Taken.{begun, field_taken, line_taken}
use Rattle.package_record.proofs.HeaderLines.{number_taken}
use Rattle.package_record.proofs.Whole.{empty_is, first_taken, join_behind, whole_taken}

-- ---- the two lines

-- a text that begins with the first line
first_line : (text : Text) → pieces_at 10 (codes "@dpb 2" ++ 10 ∷ text) ≡ codes "@dpb 2" ∷ pieces_at 10 text
first_line text = refl

begins_so : (text : Text) → is_several text ≡ true → text ≡ codes "@dpb 2" ++ 10 ∷ drop 7 text
unfolding ended
begins_so text several = begun (codes "@dpb 2" ++ 10 ∷ []) text several

tail_is : (a b : Text) (xs ys : List Text) → a ∷ xs ≡ b ∷ ys → xs ≡ ys
tail_is a b xs ys e = cc

-- the text after the first line is the second line and the rest
second_line : (behind text : Text) (p : Place) → pieces_at 10 behind ≡ text ∷ p.lines → 0 < length p.lines → behind ≡ text ++ 10 ∷ join_with_byte 10 p.lines
second_line behind text p lines some = sym (join_with_byte-slice_split 10 behind) ∙ ap (join_with_byte 10) lines ∙ join_behind text p.lines some

two_lines : (n : ℕ) (rest : Text) → codes "@dpb 2" ++ 10 ∷ ((codes "@packages " ++ decimal n) ++ 10 ∷ rest) ≡ ended (several_lines n) ++ rest
unfolding ended
two_lines n rest = sym (simp append_assoc)

packages_taken : (text : Text) (x : ℕ × Text) → is_several text ≡ true → packages_of text ≡ Ok x → (text ≡ ended (several_lines x.0) ++ x.1) × (2 ≤ x.0) × (x.0 ≤ most_packages)
unfolding packages_of
packages_taken text x several e =
    let word = codes "@packages " in
    let start : Place = record { passed = 0; lines = pieces_at 10 text } in
    let a = bind_ok (packages_at start) (λ count. Ok (count.0, join_with_byte 10 count.1.lines)) x e in
    let b = bind_ok (line_at start) (λ version. field_at word version.1 >>= λ field. number_in 2 most_packages field.1.passed field.0 >>= λ count. Ok (count, field.1)) a.0 a.1 in
    let f = bind_ok (field_at word b.0.1) (λ field. number_in 2 most_packages field.1.passed field.0 >>= λ count. Ok (count, field.1)) a.0 b.2 in
    let g = bind_ok (number_in 2 most_packages f.0.1.passed f.0.0) (λ count. Ok (count, f.0.1)) a.0 f.2 in
    let version = line_taken start b.0 b.1 in
    let field = field_taken word b.0.1 f.0 f.1 in
    let count = number_taken 2 most_packages f.0.1.passed f.0.0 g.0 (omega arith) g.1 in
    let behind = drop 7 text in
    let begins : text ≡ codes "@dpb 2" ++ 10 ∷ behind = begins_so text several in
    let lines : codes "@dpb 2" ∷ pieces_at 10 behind ≡ b.0.0 ∷ b.0.1.lines = sym (ap (pieces_at 10) begins ∙ first_line behind) ∙ version.0 in
    let second : pieces_at 10 behind ≡ (word ++ f.0.0) ∷ f.0.1.lines = tail_is _ _ _ _ lines ∙ field.0 in
    let rest = join_with_byte 10 f.0.1.lines in
    let whole : text ≡ ended (several_lines g.0) ++ rest =
    begins ∙ ap (λ (t : Text). codes "@dpb 2" ++ 10 ∷ t) (second_line behind (word ++ f.0.0) f.0.1 second field.2)
    ∙ ap (λ (t : Text). codes "@dpb 2" ++ 10 ∷ ((word ++ t) ++ 10 ∷ rest)) count.0 ∙ two_lines g.0 rest in
    let same : (g.0, f.0.1) ≡ a.0 = ok_is (g.0, f.0.1) a.0 g.2 in
    let made : (a.0.0, join_with_byte 10 a.0.1.lines) ≡ x = ok_is (a.0.0, join_with_byte 10 a.0.1.lines) x a.2 in
    subst (λ (y : ℕ × Text). (text ≡ ended (several_lines y.0) ++ y.1) × (2 ≤ y.0) × (y.0 ≤ most_packages))
    (ap (λ (y : ℕ × Place). (y.0, join_with_byte 10 y.1.lines)) same ∙ made) (whole, count.1, count.2)

-- ---- the records

pub unless_ok : {X : Type 0} (fault : Option RecordFault) (x y : X) → unless_fault fault x ≡ Ok y → (fault ≡ None) × (x ≡ y)
unless_ok None x y e = (refl, ok_is x y e)
unless_ok (Some d) x y e = absurd cc

next_taken : (n : ℕ) (front : List Content) (text : Text) (x : Content × Text) → next_of n front text ≡ Ok x
    → IsRecord x.0 × (text ≡ record_text x.0 ++ x.1) × (n - length x.1 ≤ most_bytes) × (next_fault front x.0 ≡ None)
unfolding next_of
next_taken n front text x e =
    let a = bind_ok (first_of text) (λ c. cond (ltb most_bytes (n - length c.1)) (Err TooLarge) (unless_fault (next_fault front c.0) c)) x e in
    let t = refusal_ok (ltb most_bytes (n - length a.0.1)) TooLarge (unless_fault (next_fault front a.0.0) a.0) x a.2 in
    let f = unless_ok (next_fault front a.0.0) a.0 x t.1 in
    let read = first_taken text a.0 a.1 in
    subst (λ (y : Content × Text). IsRecord y.0 × (text ≡ record_text y.0 ++ y.1) × (n - length y.1 ≤ most_bytes) × (next_fault front y.0 ≡ None)) f.1
    (read.0, read.1, ltb-false _ _ t.0, f.0)

-- this number of records after others
record Records (n k : ℕ) (front : List Content) (text : Text) (x : List Content × Text) : Type 0 where
  more : List Content
  all : x.0 ≡ front ++ more
  count : length more ≡ k
  parts : text ≡ records_text more ++ x.1
  good : All IsRecord more
  follow : AllFollow front more
  short : 0 < k → n - length x.1 ≤ most_bytes

-- the length at the last of them
last_short : (n k : ℕ) (rest left : Text) → n - length rest ≤ most_bytes → (0 < k → n - length left ≤ most_bytes) → (k ≡ zero → rest ≡ left) → n - length left ≤ most_bytes
last_short n zero rest left here more none = subst (λ (t : Text). n - length t ≤ most_bytes) (none refl) here
last_short n (suc k) rest left here more none = more (omega arith)

records_taken : (n k : ℕ) (front : List Content) (text : Text) (x : List Content × Text) → records_in n k front text ≡ Ok x → Records n k front text x
unfolding records_in
records_taken n zero front text x e =
    let same : (front, text) ≡ x = ok_is (front, text) x e in
    record {
      more = [];
      all = sym (ap (λ (x : List Content × Text). x.0) same) ∙ sym (append-nil front);
      count = refl;
      parts = ap (λ (x : List Content × Text). x.1) same;
      good = All-nil IsRecord;
      follow = tt;
      short = λ some. absurd (omega arith);
    }
records_taken n (suc k) front text x e =
    let a = bind_ok (next_of n front text) (λ c. records_in n k (front ++ c.0 ∷ []) c.1) x e in
    let here = next_taken n front text a.0 a.1 in
    let rest = records_taken n k (front ++ a.0.0 ∷ []) a.0.1 x a.2 in
    record {
      more = a.0.0 ∷ rest.more;
      all = rest.all ∙ append_assoc front (a.0.0 ∷ []) rest.more;
      count = ap suc rest.count;
      parts = here.1 ∙ ap (λ (t : Text). record_text a.0.0 ++ t) rest.parts ∙ sym (append_assoc (record_text a.0.0) (records_text rest.more) x.1);
      good = All-cons IsRecord a.0.0 rest.more here.0 rest.good;
      follow = (here.3, rest.follow);
      short = λ some. last_short n k a.0.1 x.1 here.2 rest.short (λ none. rest.parts ∙ ap (λ (cs : List Content). records_text cs ++ x.1) (nothing rest.more (rest.count ∙ none)));
    }
  where
    nothing : (cs : List Content) → length cs ≡ zero → cs ≡ []
    nothing [] e = refl
    nothing (c ∷ cs) e = absurd (omega arith)

several_taken : (text : Text) (x : List Content × Text) → is_several text ≡ true → several_of text ≡ Ok x → IsBuild x.0 × (text ≡ build_text x.0 ++ x.1)
unfolding several_of
several_taken text x several e =
    let a = bind_ok (packages_of text) (λ packages. records_in (length text) packages.0 [] packages.1) x e in
    let lines = packages_taken text a.0 several a.1 in
    let records = records_taken (length text) a.0.0 [] a.0.1 x a.2 in
    let cs = records.more in
    let two : 2 ≤ length cs = omega (arith, records.count, lines.1) in
    let before = ended (several_lines a.0.0) in
    let same : before ++ records_text cs ≡ build_text cs =
    ap (λ (n : ℕ). ended (several_lines n) ++ records_text cs) (sym records.count) ∙ ap (λ (t : Text). t ++ records_text cs) (sym (lines_of_several (length cs) two)) ∙ sym (text_parts cs) in
    let spelled : text ≡ build_text cs ++ x.1 =
    lines.0 ∙ ap (λ (t : Text). before ++ t) records.parts ∙ sym (append_assoc before (records_text cs) x.1) ∙ ap (λ (t : Text). t ++ x.1) same in
    let short : length text - length x.1 ≤ most_bytes = records.short (omega (arith, lines.1)) in
    let alike = are_alike cs (omega arith) records.follow in
    let good : IsBuild cs = record {
      records = records.good;
      few = omega (arith, records.count, lines.2);
      ascending = alike.0;
      alike = alike.1;
      fits = omega (arith, ap length spelled, length-append (build_text cs) x.1, short);
    } in
    subst (λ (ds : List Content). IsBuild ds × (text ≡ build_text ds ++ x.1)) (sym records.all) (good, spelled)

-- ---- the whole

map_taken : {X Y : Type 0} (f : X → Y) (r : Result X RecordFault) (y : Y) → map_ok f r ≡ Ok y → (x : X) × (r ≡ Ok x) × (f x ≡ y)
map_taken f (Ok x) y e = (x, refl, ok_is (f x) y e)
map_taken f (Err d) y e = absurd cc

-- a record is a build of one package
pub one_record : (c : Content) → IsRecord c → IsBuild (c ∷ [])
one_record c good = record {
  records = All-cons IsRecord c [] good (All-nil IsRecord);
  few = omega arith;
  ascending = refl;
  alike = All-nil _;
  fits = good.fits;
}

pub whole_build_taken : (text : Text) (cs : List Content) → whole_build_of text ≡ Ok cs → IsBuild cs × (text ≡ build_text cs)
unfolding whole_build_of whole_several_of
whole_build_taken text cs e =
    elim (ways (is_several text) (whole_several_of text) (map_ok alone (whole_of text)) cs e) [
      | inl w ↦
          let a = refusal_ok (ltb most_bytes (length text)) TooLarge (several_of text >>= λ build. cond (is_empty build.1) (Ok build.0) (Err Trailing)) cs w.1 in
          let b = bind_ok (several_of text) (λ build. cond (is_empty build.1) (Ok build.0) (Err Trailing)) cs a.1 in
          let t = test_ok (is_empty b.0.1) Trailing (Ok b.0.0) cs b.2 in
          let read = several_taken text b.0 w.0 b.1 in
          let spelled : text ≡ build_text b.0.0 = read.1 ∙ ap (λ (t : Text). build_text b.0.0 ++ t) (empty_is b.0.1 t.0) ∙ append-nil (build_text b.0.0) in
          subst (λ (ds : List Content). IsBuild ds × (text ≡ build_text ds)) (ok_is b.0.0 cs t.1) (read.0, spelled)
      | inr w ↦
          let m = map_taken alone (whole_of text) cs w.1 in
          let read = whole_taken text m.0 m.1 in
          subst (λ (ds : List Content). IsBuild ds × (text ≡ build_text ds)) m.2 (one_record m.0 read.0, read.1)
    ]

pub first_build_taken : (text : Text) (x : List Content × Text) → first_build_of text ≡ Ok x → IsBuild x.0 × (text ≡ build_text x.0 ++ x.1)
unfolding first_build_of
first_build_taken text x e =
    elim (ways (is_several text) (several_of text) (map_ok (λ c. (alone c.0, c.1)) (first_of text)) x e) [
      | inl w ↦ several_taken text x w.0 w.1
      | inr w ↦
          let m = map_taken (λ c. (alone c.0, c.1)) (first_of text) x w.1 in
          let read = first_taken text m.0 m.1 in
          subst (λ (y : List Content × Text). IsBuild y.0 × (text ≡ build_text y.0 ++ y.1)) m.2 (one_record m.0.0 read.0, read.1)
    ]
