-- What is parsed of the lines of a header is their text.
use Rattle.std.proofs.Common.{◌≡◌, ℕ, zero, suc, ◌+◌, ◌-◌, ◌<◌, ◌≤◌, ◌^◌, true, cond, leb, List, [], ◌∷◌, ◌++◌, ◌&&◌, ◌⊎◌, inl, inr, length, take, drop, map, Option, Some, Result, Ok, Err, refl, sym, ap, subst, ◌∙◌, append_assoc, arith, codes, decimal}
use Rattle.std.specs.List.{All, flat_map, sum_by}
use Rattle.std.specs.Str.{bytes_eq}
use Rattle.std.specs.Str.Parse.{digits_value}
use Rattle.std.proofs.lemmas.Bool.{and_parts, cases_lt, leb-true}
use Rattle.std.proofs.lemmas.List.{append-nil, length-append, length-drop, length-take, map-append, take-append-drop, take-append-le}
use Rattle.std.proofs.Math.ListN.{get_or-append}
use Rattle.std.proofs.Math.Seq.{get_or-append_seam, take-append_seam}
use Rattle.std.proofs.lemmas.List.Concat.{flat_map_single}
use Rattle.std.proofs.lemmas.List.Elements.{All-append, All-nil}
use Rattle.std.proofs.lemmas.List.Sums.{sum_by-cons}
use Rattle.std.proofs.lemmas.Slice.Eq.{bytes_eq-Decides}
use Rattle.hex.specs.Hex.{encode_lower, lower_digits}
use Rattle.hex.proofs.HexLemmas.{decode_of-ok, decode_sized-ok, decode_sized-twice, length-encode_with}
use Rattle.sha2.specs.Sha256.{sha256}
use Rattle.faults.specs.Bytes.{Text}
use Rattle.claims.specs.PkgName.{IsName}
use Rattle.claims.specs.PkgPath.{IsPath}
use Rattle.claims.specs.Claim.{IsClaim, greatest_round}
use Rattle.claims.specs.declared.claim.Claim.{Claim}
use Rattle.claims.specs.Deps.{is_ascending}
use Rattle.claims.specs.declared.deps.Dep.{Dep}
use Rattle.package_record.specs.Content.{AreFileNames, IsDep, NamedFile, built_line, claim_line, file_lines, is_next_name, names_of, run_line}
use Rattle.package_record.specs.inside.Given.{Fails, refusal_of}
use Rattle.package_record.specs.Reading.{Front, Head, Place, ◌>>=◌, all_at, built_at, claim_at, claim_in, cut_in, field_at, file_at, files_in, front_at, host_at, is_above, name_at, name_in, is_number, line_at, number_in, path_at, path_in, run_at, version_at}
use Rattle.package_record.specs.declared.RecordFault.{RecordFault}
use Rattle.package_record.specs.declared.RecordFault.TheVariants.{BadLine, DigestDiffers, Memory}
use Rattle.package_record.specs.declared.fault.ReadError.{ReadError}
use Rattle.package_record.specs.declared.fault.ReadError.TheVariants as errors
use Rattle.package_record.proofs.Ascending.{ascending_more, last_mapped}
use Rattle.package_record.proofs.Many.{many_taken}
use Rattle.package_record.proofs.Steps.{bind_ok, ok_is, test_ok}
use Rattle.package_record.proofs.Taken.{IsRead, built_stops, built_taken, cut_taken, entry_stops, entry_taken, field_taken, head_lines, line_taken, name_taken, number_text, path_taken, run_stops, run_taken}

-- the refusal of a reader that failed
pub failed : {Y : Type 0} (e : ReadError) (f : RecordFault) (read : Result Y RecordFault) → f ≡ refusal_of e → Fails e read → (f ≡ Memory) ⊎ (read ≡ Err f)
failed errors.Memory f read e h = inl e
failed (errors.Fault d) f read e h = inr (h ∙ ap Err (sym e))

-- ---- the first five lines

pub number_taken : (least greatest n : ℕ) (text : Text) (v : ℕ) → greatest < 2 ^ 64 → number_in least greatest n text ≡ Ok v → (text ≡ decimal v) × (least ≤ v) × (v ≤ greatest)
unfolding number_in
number_taken least greatest n text v small e =
    let d = digits_value 10 text in
    let t = test_ok (is_number text && leb least d && leb d greatest) (BadLine n) (Ok d) v e in
    let outer = and_parts (is_number text && leb least d) (leb d greatest) t.0 in
    let inner = and_parts (is_number text) (leb least d) outer.0 in
    let most : d ≤ greatest = leb-true _ _ outer.1 in
    subst (λ (v : ℕ). (text ≡ decimal v) × (least ≤ v) × (v ≤ greatest)) (ok_is d v t.1) (sym (number_text text inner.0 (omega (arith, most, small))), leb-true _ _ inner.1, most)

version_taken : (p q : Place) → version_at p ≡ Ok q → p.lines ≡ codes "@dpb 1" ∷ q.lines
unfolding version_at
version_taken p q e =
    let a = bind_ok (line_at p) (λ line. cond (bytes_eq line.0 (codes "@dpb 1")) (Ok line.1) (Err (BadLine line.1.passed))) q e in
    let t = test_ok (bytes_eq a.0.0 (codes "@dpb 1")) (BadLine a.0.1.passed) (Ok a.0.1) q a.2 in
    (line_taken p a.0 a.1).0 ∙ ap (λ (l : Text). l ∷ a.0.1.lines) ((bytes_eq-Decides a.0.0 (codes "@dpb 1")).0 t.0) ∙ ap (λ (q : Place). codes "@dpb 1" ∷ q.lines) (ok_is a.0.1 q t.1)

name_line_taken : (p : Place) (x : Text × Place) → name_at p ≡ Ok x → (p.lines ≡ (codes "@name " ++ x.0) ∷ x.1.lines) × IsName x.0
unfolding name_at
name_line_taken p x e =
    let word = codes "@name " in
    let a = bind_ok (field_at word p) (λ field. name_in field.1.passed field.0 >>= λ name. Ok (name, field.1)) x e in
    let b = bind_ok (name_in a.0.1.passed a.0.0) (λ name. Ok (name, a.0.1)) x a.2 in
    let name = name_taken a.0.1.passed a.0.0 b.0 b.1 in
    subst (λ (y : Text × Place). (p.lines ≡ (word ++ y.0) ∷ y.1.lines) × IsName y.0) (ok_is (b.0, a.0.1) x b.2)
    ((field_taken word p a.0 a.1).0 ∙ ap (λ (t : Text). (word ++ t) ∷ a.0.1.lines) name.0, name.1)

path_line_taken : (p : Place) (x : Text × Place) → path_at p ≡ Ok x → (p.lines ≡ (codes "@comment pkgpath=" ++ x.0) ∷ x.1.lines) × IsPath x.0
unfolding path_at
path_line_taken p x e =
    let word = codes "@comment pkgpath=" in
    let a = bind_ok (field_at word p) (λ field. path_in field.1.passed field.0 >>= λ path. Ok (path, field.1)) x e in
    let b = bind_ok (path_in a.0.1.passed a.0.0) (λ path. Ok (path, a.0.1)) x a.2 in
    let path = path_taken a.0.1.passed a.0.0 b.0 b.1 in
    subst (λ (y : Text × Place). (p.lines ≡ (word ++ y.0) ∷ y.1.lines) × IsPath y.0) (ok_is (b.0, a.0.1) x b.2)
    ((field_taken word p a.0 a.1).0 ∙ ap (λ (t : Text). (word ++ t) ∷ a.0.1.lines) path.0, path.1)

host_taken : (p : Place) (x : ℕ × Place) → host_at p ≡ Ok x → (p.lines ≡ (codes "@host " ++ decimal x.0) ∷ x.1.lines) × (x.0 ≤ 65535)
unfolding host_at
host_taken p x e =
    let word = codes "@host " in
    let a = bind_ok (field_at word p) (λ field. number_in 0 65535 field.1.passed field.0 >>= λ host. Ok (host, field.1)) x e in
    let b = bind_ok (number_in 0 65535 a.0.1.passed a.0.0) (λ host. Ok (host, a.0.1)) x a.2 in
    let host = number_taken 0 65535 a.0.1.passed a.0.0 b.0 (omega arith) b.1 in
    subst (λ (y : ℕ × Place). (p.lines ≡ (word ++ decimal y.0) ∷ y.1.lines) × (y.0 ≤ 65535)) (ok_is (b.0, a.0.1) x b.2)
    ((field_taken word p a.0 a.1).0 ∙ ap (λ (t : Text). (word ++ t) ∷ a.0.1.lines) host.0, host.2)

claim_taken : (n : ℕ) (text : Text) (c : Claim) → claim_in n text ≡ Ok c → (text ≡ decimal c.round ++ 46 ∷ decimal c.member) × IsClaim c
unfolding claim_in
claim_taken n text c e =
    let a = bind_ok (cut_in 46 n text) (λ parts. number_in 1 greatest_round n parts.0 >>= λ round. number_in 0 8 n parts.1 >>= λ member. Ok (claim round member)) c e in
    let b = bind_ok (number_in 1 greatest_round n a.0.0) (λ round. number_in 0 8 n a.0.1 >>= λ member. Ok (claim round member)) c a.2 in
    let f = bind_ok (number_in 0 8 n a.0.1) (λ member. Ok (claim b.0 member)) c b.2 in
    let round = number_taken 1 greatest_round n a.0.0 b.0 (omega arith) b.1 in
    let member = number_taken 0 8 n a.0.1 f.0 (omega arith) f.1 in
    subst (λ (c : Claim). (text ≡ decimal c.round ++ 46 ∷ decimal c.member) × IsClaim c) (ok_is (claim b.0 f.0) c f.2) (
      cut_taken 46 n text a.0 a.1 ∙ ap (λ (t : Text). t ++ 46 ∷ a.0.1) round.0 ∙ ap (λ (t : Text). decimal b.0 ++ 46 ∷ t) member.0,
      record { round = (round.1, round.2); member = omega (arith, member.2) },
    )
  where
    claim : ℕ → ℕ → Claim
    claim round member = record { round = round; member = member }

dotted : (word round member : Text) → word ++ (round ++ 46 ∷ member) ≡ word ++ round ++ 46 ∷ [] ++ member
dotted word round member = sym (simp append_assoc)

claim_line_taken : (p : Place) (x : Claim × Place) → claim_at p ≡ Ok x → (p.lines ≡ claim_line x.0 ∷ x.1.lines) × IsClaim x.0
unfolding claim_at
claim_line_taken p x e =
    let word = codes "@claim " in
    let a = bind_ok (field_at word p) (λ field. claim_in field.1.passed field.0 >>= λ claim. Ok (claim, field.1)) x e in
    let b = bind_ok (claim_in a.0.1.passed a.0.0) (λ claim. Ok (claim, a.0.1)) x a.2 in
    let claim = claim_taken a.0.1.passed a.0.0 b.0 b.1 in
    let line : word ++ a.0.0 ≡ claim_line b.0 = ap (λ (t : Text). word ++ t) claim.0 ∙ dotted word (decimal b.0.round) (decimal b.0.member) in
    subst (λ (y : Claim × Place). (p.lines ≡ claim_line y.0 ∷ y.1.lines) × IsClaim y.0) (ok_is (b.0, a.0.1) x b.2)
    ((field_taken word p a.0 a.1).0 ∙ ap (λ (t : Text). t ∷ a.0.1.lines) line, claim.1)

abbrev pub lines_of : Front → List Text
lines_of f = codes "@dpb 1" ∷ (codes "@name " ++ f.name) ∷ (codes "@comment pkgpath=" ++ f.path) ∷ (codes "@host " ++ decimal f.host) ∷ claim_line f.claim ∷ []

pub record IsFront (f : Front) : Type 0 where
  pub name : IsName f.name
  pub path : IsPath f.path
  pub host : f.host ≤ 65535
  pub claim : IsClaim f.claim

pub front_taken : (p : Place) (x : Front × Place) → front_at p ≡ Ok x → (p.lines ≡ lines_of x.0 ++ x.1.lines) × IsFront x.0
unfolding front_at
front_taken p x e =
    let a = bind_ok (version_at p) (λ names. name_at names >>= λ name. path_at name.1 >>= λ path. host_at path.1 >>= λ host. claim_at host.1 >>= λ claim. Ok (front name.0 path.0 host.0 claim.0, claim.1)) x e in
    let b = bind_ok (name_at a.0) (λ name. path_at name.1 >>= λ path. host_at path.1 >>= λ host. claim_at host.1 >>= λ claim. Ok (front name.0 path.0 host.0 claim.0, claim.1)) x a.2 in
    let f = bind_ok (path_at b.0.1) (λ path. host_at path.1 >>= λ host. claim_at host.1 >>= λ claim. Ok (front b.0.0 path.0 host.0 claim.0, claim.1)) x b.2 in
    let g = bind_ok (host_at f.0.1) (λ host. claim_at host.1 >>= λ claim. Ok (front b.0.0 f.0.0 host.0 claim.0, claim.1)) x f.2 in
    let h = bind_ok (claim_at g.0.1) (λ claim. Ok (front b.0.0 f.0.0 g.0.0 claim.0, claim.1)) x g.2 in
    let name = name_line_taken a.0 b.0 b.1 in
    let path = path_line_taken b.0.1 f.0 f.1 in
    let host = host_taken f.0.1 g.0 g.1 in
    let claim = claim_line_taken g.0.1 h.0 h.1 in
    let lines : p.lines ≡ lines_of (front b.0.0 f.0.0 g.0.0 h.0.0) ++ h.0.1.lines =
    version_taken p a.0 a.1
    ∙ ap (λ (ls : List Text). codes "@dpb 1" ∷ ls) (name.0
    ∙ ap (λ (ls : List Text). (codes "@name " ++ b.0.0) ∷ ls) (path.0
    ∙ ap (λ (ls : List Text). (codes "@comment pkgpath=" ++ f.0.0) ∷ ls) (host.0
    ∙ ap (λ (ls : List Text). (codes "@host " ++ decimal g.0.0) ∷ ls) claim.0))) in
    let good : IsFront (front b.0.0 f.0.0 g.0.0 h.0.0) = record { name = name.1; path = path.1; host = host.1; claim = claim.1 } in
    subst (λ (y : Front × Place). (p.lines ≡ lines_of y.0 ++ y.1.lines) × IsFront y.0) (ok_is (front b.0.0 f.0.0 g.0.0 h.0.0, h.0.1) x h.2) (lines, good)
  where
    front : Text → Text → ℕ → Claim → Front
    front name path host claim = record { name = name; path = path; host = host; claim = claim }

-- ---- repeated lines

one_all : {X : Type 0} (P : X → Type 0) (x : X) → P x → All P (x ∷ [])
one_all P x h zero d lt = h
one_all P x h (suc k) d lt = absurd (omega arith)

dep_of_read : (d : Dep) → IsRead d → IsDep d
dep_of_read d r =
    let long = decode_sized-ok (encode_lower d.digest) 32 d.digest r.digest in
    record {
      path = r.path;
      name = r.name;
      digest = omega (arith, long, length-encode_with lower_digits d.digest);
      bytes = (decode_of-ok (encode_lower d.digest) d.digest (sym (decode_sized-twice (encode_lower d.digest) 32 long) ∙ r.digest)).3;
    }

-- dependencies in order of path
pub record AreDeps (ds : List Dep) : Type 0 where
  pub deps : All IsDep ds
  pub order : is_ascending (map (λ d. d.path) ds) ≡ true

built_step : (front : List Dep) (p : Place) (d : Dep) (q : Place) → built_at front p ≡ Ok (Some d, q) → AreDeps front → (p.lines ≡ (built_line d ∷ []) ++ q.lines) × AreDeps (front ++ d ∷ [])
built_step front p d q e kept =
    let t = built_taken front p d q e in (
      t.0,
      record {
        deps = All-append IsDep front (d ∷ []) kept.deps (one_all IsDep d (dep_of_read d t.1));
        order = ap is_ascending (map-append (λ d. d.path) front (d ∷ [])) ∙ ascending_more (map (λ d. d.path) front) d.path kept.order (ap (λ (o : Option Text). is_above o d.path) (sym (last_mapped (λ d. d.path) front)) ∙ t.2);
      },
    )

pub all_built : (p : Place) (ds : List Dep) (q : Place) → all_at built_at p ≡ Ok (ds, q) → (p.lines ≡ map built_line ds ++ q.lines) × AreDeps ds
all_built p ds q e =
    let t = many_taken built_at (λ d. built_line d ∷ []) AreDeps built_step (length p.lines) [] p ds q e (record { deps = All-nil IsDep; order = refl }) in
    (t.parts ∙ ap (λ (ls : List Text). ls ++ t.last.lines) (flat_map_single built_line t.more ∙ ap (map built_line) (sym t.all)) ∙ ap (λ (ls : List Text). map built_line ds ++ ls) (built_stops ds t.last q t.stops), t.keeps)

pub record ArePaths (ts : List Text) : Type 0 where
  pub paths : All IsPath ts
  pub order : is_ascending ts ≡ true

run_step : (front : List Text) (p : Place) (t : Text) (q : Place) → run_at front p ≡ Ok (Some t, q) → ArePaths front → (p.lines ≡ (run_line t ∷ []) ++ q.lines) × ArePaths (front ++ t ∷ [])
run_step front p path q e kept =
    let t = run_taken front p path q e in (
      t.0,
      record {
        paths = All-append IsPath front (path ∷ []) kept.paths (one_all IsPath path t.1);
        order = ascending_more front path kept.order t.2;
      },
    )

pub all_run : (p : Place) (ts : List Text) (q : Place) → all_at run_at p ≡ Ok (ts, q) → (p.lines ≡ map run_line ts ++ q.lines) × ArePaths ts
all_run p ts q e =
    let t = many_taken run_at (λ path. run_line path ∷ []) ArePaths run_step (length p.lines) [] p ts q e (record { paths = All-nil IsPath; order = refl }) in
    (t.parts ∙ ap (λ (ls : List Text). ls ++ t.last.lines) (flat_map_single run_line t.more ∙ ap (map run_line) (sym t.all)) ∙ ap (λ (ls : List Text). map run_line ts ++ ls) (run_stops ts t.last q t.stops), t.keeps)

-- one more name that may follow the others
names_push : (names : List Text) (name : Text) → AreFileNames names → is_next_name names name ≡ true → AreFileNames (names ++ name ∷ [])
names_push names name good next k lt =
    elim (cases_lt k (length names)) [
      | inl below ↦ rw (take-append-le k names (name ∷ []) (omega (arith, below)), get_or-append names (name ∷ []) [] k below) (good k below)
      | inr above ↦
          let same : k ≡ length names = omega (arith, length-append names (name ∷ []), lt, above) in
          rw (same, take-append_seam names (name ∷ []), get_or-append_seam names name [] []) next
    ]

abbrev pub HaveNames : List Head → Type 0
HaveNames hs = AreFileNames (map (λ h. h.name) hs)

file_step : (front : List Head) (p : Place) (h : Head) (q : Place) → file_at front p ≡ Ok (Some h, q) → HaveNames front → (p.lines ≡ head_lines h ++ q.lines) × HaveNames (front ++ h ∷ [])
file_step front p h q e kept =
    let t = entry_taken _ _ p h q e in
    (t.0, rw (map-append (λ h. h.name) front (h ∷ [])) (names_push (map (λ h. h.name) front) h.name kept t.1.name))

pub all_files : (p : Place) (hs : List Head) (q : Place) → all_at file_at p ≡ Ok (hs, q) → (p.lines ≡ flat_map head_lines hs ++ ([] ∷ q.lines)) × HaveNames hs × (0 < length q.lines)
all_files p hs q e =
    let t = many_taken file_at head_lines HaveNames file_step (length p.lines) [] p hs q e (λ k lt. absurd (omega (arith, lt))) in
    let ends = entry_stops _ _ t.last q t.stops in
    (t.parts ∙ ap (λ (hs : List Head). flat_map head_lines hs ++ t.last.lines) (sym t.all) ∙ ap (λ (ls : List Text). flat_map head_lines hs ++ ls) ends.0, t.keeps, ends.1)

-- ---- the bytes

-- the files after the header
pub record Bodies (front : List NamedFile) (hs : List Head) (bytes : Text) (fs : List NamedFile) (rest : Text) : Type 0 where
  pub more : List NamedFile
  pub all : fs ≡ front ++ more
  pub parts : bytes ≡ flat_map (λ f. f.bytes) more ++ rest
  pub lines : flat_map head_lines hs ≡ flat_map file_lines more
  pub names : map (λ h. h.name) hs ≡ names_of more
  pub sizes : sum_by (λ h. h.size) hs ≡ length (flat_map (λ f. f.bytes) more)

pub files_taken : (front : List NamedFile) (hs : List Head) (bytes : Text) (fs : List NamedFile) (rest : Text) → sum_by (λ h. h.size) hs ≤ length bytes → files_in front hs bytes ≡ Ok (fs, rest) → Bodies front hs bytes fs rest
unfolding files_in
files_taken front [] bytes fs rest enough e =
    let same = ok_is (front, bytes) (fs, rest) e in
    record {
      more = [];
      all = sym (ap (λ (x : List NamedFile × Text). x.0) same) ∙ sym (append-nil front);
      parts = ap (λ (x : List NamedFile × Text). x.1) same;
      lines = refl;
      names = refl;
      sizes = refl;
    }
files_taken front (h ∷ hs) bytes fs rest enough e =
    let body = take h.size bytes in
    let file : NamedFile = record { name = h.name; bytes = body } in
    let t = test_ok (bytes_eq (sha256 body) h.digest) (DigestDiffers h.line) (files_in (front ++ record { name = h.name; bytes = take h.size bytes } ∷ []) hs (drop h.size bytes)) (fs, rest) e in
    let first = sum_by-cons (λ h. h.size) h hs in
    let digest : sha256 body ≡ h.digest = (bytes_eq-Decides (sha256 body) h.digest).0 t.0 in
    let size : length body ≡ h.size = omega (arith, length-take h.size bytes, enough, first) in
    let behind = files_taken (front ++ record { name = h.name; bytes = take h.size bytes } ∷ []) hs (drop h.size bytes) fs rest (omega (arith, length-drop h.size bytes, enough, first)) t.1 in
    let here : head_lines h ≡ file_lines (record { name = h.name; bytes = take h.size bytes }) =
    ap (λ (d : List ℕ). h.name ∷ (codes "@sha " ++ encode_lower d) ∷ (codes "@size " ++ decimal h.size) ∷ []) (sym digest)
    ∙ ap (λ (n : ℕ). h.name ∷ (codes "@sha " ++ encode_lower (sha256 body)) ∷ (codes "@size " ++ decimal n) ∷ []) (sym size) in
    record {
      more = record { name = h.name; bytes = take h.size bytes } ∷ behind.more;
      all = behind.all ∙ append_assoc front (record { name = h.name; bytes = take h.size bytes } ∷ []) behind.more;
      parts = sym (take-append-drop h.size bytes) ∙ ap (λ (t : Text). body ++ t) behind.parts ∙ sym (append_assoc body (flat_map (λ f. f.bytes) behind.more) rest);
      lines = ap (λ (ls : List Text). ls ++ flat_map head_lines hs) here ∙ ap (λ (ls : List Text). file_lines (record { name = h.name; bytes = take h.size bytes }) ++ ls) behind.lines;
      names = ap (λ (ls : List Text). h.name ∷ ls) behind.names;
      sizes = omega (arith, first, size, behind.sizes, length-append body (flat_map (λ f. f.bytes) behind.more));
    }
