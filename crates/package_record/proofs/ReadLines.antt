-- The texts of lines are parsed as these lines.
use Rattle.std.proofs.Common.{◌≡◌, ℕ, zero, suc, ◌+◌, ◌<◌, ◌≤◌, true, false, not, List, [], ◌∷◌, ◌++◌, length, take, drop, map, option_map, Option, Some, None, Result, Ok, refl, sym, ap, subst, ◌∙◌, append_assoc, arith, codes, decimal}
use Rattle.std.specs.List.{All, flat_map, list_all, sum_by}
use Rattle.std.proofs.lemmas.Bool.{and_parts, not-true}
use Rattle.std.proofs.lemmas.List.{append-nil, length-append, length-map, map-append}
use Rattle.std.proofs.lemmas.List.Concat.{flat_map_single}
use Rattle.std.proofs.lemmas.List.Sums.{sum_by-append, sum_by-cons}
use Rattle.std.proofs.Math.Seq.{get_or-append_seam, take-append_seam}
use Rattle.hex.specs.Hex.{IsBytes, encode_lower}
use Rattle.sha2.specs.Sha256.{sha256}
use Rattle.sha2.proofs.Facts256.{length-sha256}
use Rattle.faults.specs.Bytes.{Text, begins_with, is_among, is_empty, slash}
use Rattle.faults.specs.Pieces.{pieces_at}
use Rattle.claims.specs.PkgName.{IsName}
use Rattle.claims.specs.PkgPath.{IsPath}
use Rattle.claims.specs.declared.claim.Claim.{Claim}
use Rattle.claims.specs.Claim.{IsClaim}
use Rattle.claims.specs.Deps.{is_ascending}
use Rattle.claims.specs.declared.deps.Dep.{Dep}
use Rattle.package_record.specs.Content.{AreFileNames, Content, IsDep, NamedFile, built_line, claim_line, file_lines, front_lines, is_file_component, is_file_name, is_next_name, is_printable, most_bytes, names_of, run_line}
use Rattle.package_record.specs.Reading.{Front, Head, Place, ◌>>=◌, all_at, built_at, claim_at, entry_at, file_at, front_at, go_on, head_at, host_at, is_above, last_of, many_at, name_at, path_at, run_at, version_at}
use Rattle.package_record.specs.declared.RecordFault.{RecordFault}
use Rattle.package_record.proofs.Ascending.{ascending_above, last_mapped}
use Rattle.package_record.proofs.Digests.{sha256_bytes}
use Rattle.package_record.proofs.ReadFields.{at, claim_read, dependency_read, digest_read, field_read, line_read, name_read, number_read, path_read, size_read}
use Rattle.package_record.proofs.Taken.{head_lines}

-- ---- the first five lines

version_read : (n : ℕ) (ls : List Text) → 0 < length ls → version_at (at n (codes "@dpb 1" ∷ ls)) ≡ Ok (at (n + 1) ls)
unfolding version_at
version_read n ls more = rw (line_read n (codes "@dpb 1") ls more)

name_line_read : (n : ℕ) (name : Text) (ls : List Text) → IsName name → 0 < length ls → name_at (at n ((codes "@name " ++ name) ∷ ls)) ≡ Ok (name, at (n + 1) ls)
unfolding name_at
name_line_read n name ls good more = rw (field_read (codes "@name ") name n ls more, name_read (n + 1) name good)

path_line_read : (n : ℕ) (path : Text) (ls : List Text) → IsPath path → 0 < length ls → path_at (at n ((codes "@comment pkgpath=" ++ path) ∷ ls)) ≡ Ok (path, at (n + 1) ls)
unfolding path_at
path_line_read n path ls good more = rw (field_read (codes "@comment pkgpath=") path n ls more, path_read (n + 1) path good)

host_read : (n host : ℕ) (ls : List Text) → host ≤ 65535 → 0 < length ls → host_at (at n ((codes "@host " ++ decimal host) ∷ ls)) ≡ Ok (host, at (n + 1) ls)
unfolding host_at
host_read n host ls most more = rw (field_read (codes "@host ") (decimal host) n ls more, number_read 0 65535 (n + 1) host (omega arith) (omega arith) most)

dotted : (word round member : Text) → word ++ round ++ 46 ∷ [] ++ member ≡ word ++ (round ++ 46 ∷ member)
dotted word round member = simp append_assoc

claim_line_read : (n : ℕ) (c : Claim) (ls : List Text) → IsClaim c → 0 < length ls → claim_at (at n (claim_line c ∷ ls)) ≡ Ok (c, at (n + 1) ls)
unfolding claim_at
claim_line_read n c ls good more =
    let text = decimal c.round ++ 46 ∷ decimal c.member in
    ap (λ (l : Text). claim_at (at n (l ∷ ls))) (dotted (codes "@claim ") (decimal c.round) (decimal c.member))
    ∙ rw (field_read (codes "@claim ") text n ls more, claim_read (n + 1) c good)

-- the contents of the first five lines of a record
abbrev pub front_of : Content → Front
front_of c = record { name = c.name; path = c.path; host = c.host; claim = c.claim }

pub front_read : (c : Content) (ls : List Text) → IsName c.name → IsPath c.path → c.host ≤ 65535 → IsClaim c.claim → 0 < length ls → front_at (at 0 (front_lines c ++ ls)) ≡ Ok (front_of c, at 5 ls)
unfolding front_at
front_read c ls name path host claim more =
    let behind_claim : 0 < length (claim_line c.claim ∷ ls) = omega arith in
    rw (
      version_read 0 (drop 1 (front_lines c) ++ ls) (omega arith),
      name_line_read 1 c.name (drop 2 (front_lines c) ++ ls) name (omega arith),
      path_line_read 2 c.path (drop 3 (front_lines c) ++ ls) path (omega arith),
      host_read 3 c.host (claim_line c.claim ∷ ls) host behind_claim,
      claim_line_read 4 c.claim ls claim more,
    )

-- ---- repeated lines

module _ {X : Type 0} (one : List X → Place → Result (Option X × Place) RecordFault) (lines : X → List Text) (Fits : ℕ → List X → X → Type 0)
    (read : (front : List X) (n : ℕ) (x : X) (ls : List Text) → Fits n front x → 0 < length ls → one front (at n (lines x ++ ls)) ≡ Ok (Some x, at (n + length (lines x)) ls)) where
  -- each may follow those before it, at its line
  abbrev pub AllFit : ℕ → List X → List X → Type 0
  AllFit n front [] = Unit {0}
  AllFit n front (x ∷ xs) = Fits n front x × AllFit (n + length (lines x)) (front ++ x ∷ []) xs

  -- the number of lines passed after them
  abbrev pub passed_by : ℕ → List X → ℕ
  passed_by n [] = n
  passed_by n (x ∷ xs) = passed_by (n + length (lines x)) xs

  pub many_read : (k : ℕ) (front xs : List X) (n : ℕ) (ls : List Text) (q : Place) → length xs < k → AllFit n front xs → 0 < length ls
      → one (front ++ xs) (at (passed_by n xs) ls) ≡ Ok (None, q) → many_at one k front (at n (flat_map lines xs ++ ls)) ≡ Ok (front ++ xs, q)
  unfolding many_at
  many_read zero front xs n ls q enough fit some stops = absurd (omega arith)
  many_read (suc k) front [] n ls q enough fit some stops =
      ap (λ (r : Result (Option X × Place) RecordFault). r >>= go_on (many_at one k) front) (ap (λ (ys : List X). one ys (at n ls)) (sym (append-nil front)) ∙ stops)
      ∙ ap (λ (ys : List X). Ok (ys, q)) (sym (append-nil front))
  many_read (suc k) front (x ∷ xs) n ls q enough fit some stops =
      let here = read front n x (flat_map lines xs ++ ls) fit.0 (omega (arith, length-append (flat_map lines xs) ls)) in
      let onward : one ((front ++ x ∷ []) ++ xs) (at (passed_by (n + length (lines x)) xs) ls) ≡ Ok (None, q) =
      ap (λ (ys : List X). one ys (at (passed_by (n + length (lines x)) xs) ls)) (append_assoc front (x ∷ []) xs) ∙ stops in
      let rest = many_read k (front ++ x ∷ []) xs (n + length (lines x)) ls q (omega arith) fit.1 some onward in
      ap (λ (all : List Text). many_at one (suc k) front (at n all)) (append_assoc (lines x) (flat_map lines xs) ls)
      ∙ ap (λ (r : Result (Option X × Place) RecordFault). r >>= go_on (many_at one k) front) here
      ∙ rest ∙ ap (λ (ys : List X). Ok (ys, q)) (append_assoc front (x ∷ []) xs)

-- the next line does not begin with the word, and is not the last
pub record Next (word : Text) (ls : List Text) : Type 0 where
  pub line : Text
  pub more : List Text
  pub is : ls ≡ line ∷ more
  pub some : 0 < length more
  pub other : begins_with word line ≡ false

-- ---- dependencies

regrouped : (word path name digest : Text) → word ++ path ++ 32 ∷ [] ++ name ++ 32 ∷ [] ++ digest ≡ word ++ (path ++ 32 ∷ (name ++ 32 ∷ digest))
regrouped word path name digest = simp append_assoc

record BuiltFits (n : ℕ) (front : List Dep) (d : Dep) : Type 0 where
  dep : IsDep d
  above : is_above (option_map (λ before. before.path) (last_of front)) d.path ≡ true

built_read : (front : List Dep) (n : ℕ) (d : Dep) (ls : List Text) → BuiltFits n front d → 0 < length ls → built_at front (at n ((built_line d ∷ []) ++ ls)) ≡ Ok (Some d, at (n + 1) ls)
unfolding built_at
built_read front n d ls fits more =
    let text = d.path ++ 32 ∷ (d.name ++ 32 ∷ encode_lower d.digest) in
    ap (λ (l : Text). built_at front (at n (l ∷ ls))) (regrouped (codes "@built ") d.path d.name (encode_lower d.digest))
    ∙ rw (line_read n (codes "@built " ++ text) ls more, dependency_read (n + 1) d fits.dep, fits.above)

built_stops : (front : List Dep) (n : ℕ) (l : Text) (ls : List Text) → begins_with (codes "@built ") l ≡ false → 0 < length ls → built_at front (at n (l ∷ ls)) ≡ Ok (None, at n (l ∷ ls))
unfolding built_at
built_stops front n l ls other more = rw (line_read n l ls more, other)

built_fits : (n : ℕ) (front ds : List Dep) → All IsDep ds → is_ascending (map (λ d. d.path) (front ++ ds)) ≡ true → AllFit built_at (λ d. built_line d ∷ []) BuiltFits built_read n front ds
built_fits n front [] deps order = tt
built_fits n front (d ∷ ds) deps order =
    let ascends : is_ascending (map (λ d. d.path) front ++ d.path ∷ map (λ d. d.path) ds) ≡ true = ap is_ascending (sym (map-append (λ d. d.path) front (d ∷ ds))) ∙ order in
    let above : is_above (option_map (λ before. before.path) (last_of front)) d.path ≡ true =
    ap (λ (o : Option Text). is_above o d.path) (last_mapped (λ d. d.path) front) ∙ ascending_above (map (λ d. d.path) front) d.path (map (λ d. d.path) ds) ascends in (
      record { dep = deps 0 d (omega arith); above = above },
      built_fits (n + 1) (front ++ d ∷ []) ds (λ k x below. deps (suc k) x (omega arith)) (ap (λ (xs : List Dep). is_ascending (map (λ d. d.path) xs)) (append_assoc front (d ∷ []) ds) ∙ order),
    )

-- the dependencies before a line of another word
pub all_built_read : (n : ℕ) (ds : List Dep) (ls : List Text) → All IsDep ds → is_ascending (map (λ d. d.path) ds) ≡ true → Next (codes "@built ") ls
    → (m : ℕ) × (all_at built_at (at n (map built_line ds ++ ls)) ≡ Ok (ds, at m ls))
all_built_read n ds ls deps order next =
    let line = λ (d : Dep). built_line d ∷ [] in
    let m = passed_by built_at line BuiltFits built_read n ds in
    let single = flat_map_single built_line ds in
    let stops : built_at ds (at m ls) ≡ Ok (None, at m ls) = subst (λ (t : List Text). built_at ds (at m t) ≡ Ok (None, at m t)) (sym next.is) (built_stops ds m next.line next.more next.other next.some) in
    let some : 0 < length ls = omega (arith, ap length next.is) in
    let enough : length ds < length (flat_map line ds ++ ls) = omega (arith, length-append (flat_map line ds) ls, ap length single, length-map ds built_line) in (
      m,
      ap (λ (xs : List Text). all_at built_at (at n (xs ++ ls))) (sym single)
          ∙ many_read built_at line BuiltFits built_read (length (flat_map line ds ++ ls)) [] ds n ls (at m ls) enough (built_fits n [] ds deps order) some stops,
    )

-- ---- paths to run

record RunFits (n : ℕ) (front : List Text) (path : Text) : Type 0 where
  canonical : IsPath path
  above : is_above (last_of front) path ≡ true

run_read : (front : List Text) (n : ℕ) (path : Text) (ls : List Text) → RunFits n front path → 0 < length ls → run_at front (at n ((run_line path ∷ []) ++ ls)) ≡ Ok (Some path, at (n + 1) ls)
unfolding run_at
run_read front n path ls fits more = rw (line_read n (run_line path) ls more, path_read (n + 1) path fits.canonical, fits.above)

run_stops : (front : List Text) (n : ℕ) (l : Text) (ls : List Text) → begins_with (codes "@run ") l ≡ false → 0 < length ls → run_at front (at n (l ∷ ls)) ≡ Ok (None, at n (l ∷ ls))
unfolding run_at
run_stops front n l ls other more = rw (line_read n l ls more, other)

run_fits : (n : ℕ) (front paths : List Text) → All IsPath paths → is_ascending (front ++ paths) ≡ true → AllFit run_at (λ path. run_line path ∷ []) RunFits run_read n front paths
run_fits n front [] good order = tt
run_fits n front (path ∷ paths) good order = (
  record { canonical = good 0 path (omega arith); above = ascending_above front path paths order },
  run_fits (n + 1) (front ++ path ∷ []) paths (λ k x below. good (suc k) x (omega arith)) (ap is_ascending (append_assoc front (path ∷ []) paths) ∙ order),
)

-- the paths before a line of another word
pub all_run_read : (n : ℕ) (paths ls : List Text) → All IsPath paths → is_ascending paths ≡ true → Next (codes "@run ") ls
    → (m : ℕ) × (all_at run_at (at n (map run_line paths ++ ls)) ≡ Ok (paths, at m ls))
all_run_read n paths ls good order next =
    let line = λ (path : Text). run_line path ∷ [] in
    let m = passed_by run_at line RunFits run_read n paths in
    let single = flat_map_single run_line paths in
    let stops : run_at paths (at m ls) ≡ Ok (None, at m ls) = subst (λ (t : List Text). run_at paths (at m t) ≡ Ok (None, at m t)) (sym next.is) (run_stops paths m next.line next.more next.other next.some) in
    let some : 0 < length ls = omega (arith, ap length next.is) in
    let enough : length paths < length (flat_map line paths ++ ls) = omega (arith, length-append (flat_map line paths) ls, ap length single, length-map paths run_line) in (
      m,
      ap (λ (xs : List Text). all_at run_at (at n (xs ++ ls))) (sym single)
          ∙ many_read run_at line RunFits run_read (length (flat_map line paths ++ ls)) [] paths n ls (at m ls) enough (run_fits n [] paths good order) some stops,
    )

-- ---- files

pub name_filled : (name : Text) → is_file_name name ≡ true → is_empty name ≡ false
name_filled [] good = cc
name_filled (b ∷ bs) good = refl

pub name_parts : (name : Text) → is_file_name name ≡ true → (list_all is_printable name ≡ true) × (begins_with (codes "@") name ≡ false)
name_parts name good =
    let outer = and_parts _ (list_all is_file_component (pieces_at slash name)) good in
    let middle = and_parts _ (not (begins_with (codes "@") name)) outer.0 in
    let inner = and_parts _ (list_all is_printable name) middle.0 in
    (inner.1, not-true (begins_with (codes "@") name) middle.1)

record HeadFits (n : ℕ) (front : List Head) (h : Head) : Type 0 where
  name : is_next_name (map (λ h. h.name) front) h.name ≡ true
  digest : length h.digest ≡ 32
  bytes : IsBytes h.digest
  total : sum_by (λ h. h.size) front + h.size ≤ most_bytes
  line : h.line ≡ n + 2

file_read : (front : List Head) (n : ℕ) (h : Head) (ls : List Text) → HeadFits n front h → 0 < length ls → file_at front (at n (head_lines h ++ ls)) ≡ Ok (Some h, at (n + 3) ls)
unfolding entry_at head_at
file_read front n h ls fits more =
    let total = sum_by (λ (h : Head). h.size) front in
    let names = map (λ (h : Head). h.name) front in
    let good = (and_parts (is_file_name h.name) (not (is_among names h.name)) fits.name).0 in
    let sized : 0 < length ((codes "@size " ++ decimal h.size) ∷ ls) = omega arith in
    let both : 0 < length ((codes "@sha " ++ encode_lower h.digest) ∷ (codes "@size " ++ decimal h.size) ∷ ls) = omega arith in
    rw (
      line_read n h.name ((codes "@sha " ++ encode_lower h.digest) ∷ (codes "@size " ++ decimal h.size) ∷ ls) both,
      fits.name,
      name_filled h.name good,
      (name_parts h.name good).1,
      field_read (codes "@sha ") (encode_lower h.digest) (n + 1) ((codes "@size " ++ decimal h.size) ∷ ls) sized,
      digest_read (n + 1 + 1) h.digest fits.digest fits.bytes,
      field_read (codes "@size ") (decimal h.size) (n + 1 + 1) ls more,
      size_read total (n + 1 + 1 + 1) h.size fits.total,
    )
    (ap (λ (line : ℕ). answer line (n + 1 + 1 + 1)) (omega (arith, fits.line)) ∙ ap (answer h.line) (omega arith))
  where
    answer : ℕ → ℕ → Result (Option Head × Place) RecordFault
    answer line passed = Ok (Some (record { name = h.name; digest = h.digest; size = h.size; line = line }), at passed ls)

files_stop : (front : List Head) (n : ℕ) (ls : List Text) → 0 < length ls → file_at front (at n ([] ∷ ls)) ≡ Ok (None, at (n + 1) ls)
unfolding entry_at
files_stop front n ls more = rw (line_read n [] ls more)

-- the contents of the lines of a file, after n lines
abbrev pub head_from : ℕ → NamedFile → Head
head_from n f = record { name = f.name; digest = sha256 f.bytes; size = length f.bytes; line = n + 2 }

abbrev pub heads_from : ℕ → List NamedFile → List Head
heads_from n [] = []
heads_from n (f ∷ fs) = head_from n f ∷ heads_from (n + 3) fs

heads_lines : (n : ℕ) (fs : List NamedFile) → flat_map file_lines fs ≡ flat_map head_lines (heads_from n fs)
heads_lines n [] = refl
heads_lines n (f ∷ fs) = ap (λ (ls : List Text). file_lines f ++ ls) (heads_lines (n + 3) fs)

heads_short : (hs : List Head) → length hs ≤ length (flat_map head_lines hs)
heads_short [] = omega arith
heads_short (h ∷ hs) = omega (arith, heads_short hs)

files_fit : (n : ℕ) (front : List Head) (fs : List NamedFile) → AreFileNames (map (λ h. h.name) front ++ names_of fs) → sum_by (λ h. h.size) front + length (flat_map (λ f. f.bytes) fs) ≤ most_bytes
    → AllFit file_at head_lines HeadFits file_read n front (heads_from n fs)
files_fit n front [] names total = tt
files_fit n front (f ∷ fs) names total =
    let h = head_from n f in
    let earlier = map (λ (h : Head). h.name) front in
    let here = names (length earlier) (omega (arith, length-append earlier (f.name ∷ names_of fs))) in
    let name : is_next_name earlier f.name ≡ true =
    ap (λ (ts : List Text). is_next_name ts f.name) (sym (take-append_seam earlier (f.name ∷ names_of fs)))
    ∙ ap (is_next_name (take (length earlier) (earlier ++ f.name ∷ names_of fs))) (sym (get_or-append_seam earlier f.name (names_of fs) [])) ∙ here in
    let sizes = length-append f.bytes (flat_map (λ f. f.bytes) fs) in
    let more : sum_by (λ h. h.size) (front ++ h ∷ []) ≡ sum_by (λ h. h.size) front + length f.bytes =
    sum_by-append (λ h. h.size) front (h ∷ []) ∙ ap (λ (m : ℕ). sum_by (λ h. h.size) front + m) (sum_by-cons (λ h. h.size) h [] ∙ omega arith) in
    let onward : earlier ++ f.name ∷ names_of fs ≡ map (λ h. h.name) (front ++ h ∷ []) ++ names_of fs =
    sym (append_assoc earlier (f.name ∷ []) (names_of fs)) ∙ ap (λ (ts : List Text). ts ++ names_of fs) (sym (map-append (λ h. h.name) front (h ∷ []))) in (
      record { name = name; digest = length-sha256 f.bytes; bytes = sha256_bytes f.bytes; total = omega (arith, total, sizes); line = refl },
      files_fit (n + 3) (front ++ h ∷ []) fs (subst AreFileNames onward names) (omega (arith, more, sizes, total)),
    )

-- the lines of files, and the empty line
pub all_files_read : (n : ℕ) (fs : List NamedFile) (ls : List Text) → AreFileNames (names_of fs) → length (flat_map (λ f. f.bytes) fs) ≤ most_bytes → 0 < length ls
    → (m : ℕ) × (all_at file_at (at n (flat_map file_lines fs ++ ([] ∷ ls))) ≡ Ok (heads_from n fs, at m ls))
all_files_read n fs ls names total some =
    let hs = heads_from n fs in
    let m = passed_by file_at head_lines HeadFits file_read n hs in
    let enough : length hs < length (flat_map head_lines hs ++ ([] ∷ ls)) = omega (arith, length-append (flat_map head_lines hs) ([] ∷ ls), heads_short hs) in (
      m + 1,
      ap (λ (xs : List Text). all_at file_at (at n (xs ++ ([] ∷ ls)))) (heads_lines n fs)
          ∙ many_read file_at head_lines HeadFits file_read (length (flat_map head_lines hs ++ ([] ∷ ls))) [] hs n ([] ∷ ls) (at (m + 1) ls) enough (files_fit n [] fs names (omega (arith, total))) (omega arith) (files_stop hs m ls some),
    )
