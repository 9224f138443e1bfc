-- Records that follow one another in a build.
use Rattle.std.proofs.Common.{◌≡◌, ◌≢◌, ℕ, suc, ◌+◌, ◌<◌, ◌≤◌, Bool, true, false, not, ◌&&◌, ◌==◌, cond, List, [], ◌∷◌, ◌++◌, length, drop, get_or, Option, None, Some, refl, sym, ap, ◌∙◌, append_assoc, arith}
use Rattle.std.specs.Bool.{Decides}
use Rattle.std.specs.Cmp.Lexicographic.{pointwise}
use Rattle.std.specs.List.{All}
use Rattle.std.specs.Prelude.{option_map}
use Rattle.std.specs.Str.{bytes_eq}
use Rattle.std.proofs.lemmas.Bool.{and_from, and_parts, eq-eqb, eqb-true}
use Rattle.std.proofs.lemmas.List.{append-nil, drop_all, map-append}
use Rattle.std.proofs.lemmas.List.Elements.{All-cons, All-nil}
use Rattle.std.proofs.lemmas.Slice.Eq.{bytes_eq-Decides, slice_eq-Decides}
use Rattle.claims.specs.Claims.{claim_same}
use Rattle.claims.specs.declared.claim.Claim.{Claim}
use Rattle.faults.specs.Bytes.{Text}
use Rattle.claims.specs.Deps.{is_ascending}
use Rattle.claims.specs.declared.deps.Dep.{Dep}
use Rattle.claims.specs.PkgPath.{without_subpackage}
use Rattle.package_record.specs.Build.{AreAlike, IsAlike, paths_of}
use Rattle.package_record.specs.BuildReading.{is_next_path, is_same_dep, next_fault, unlike_fault}
use Rattle.package_record.specs.Content.{Content}
use Rattle.package_record.specs.Reading.{is_above, last_of}
use Rattle.package_record.proofs.Lists.{drop_one}
use Rattle.package_record.proofs.Ascending.{ascending_above, ascending_more, last_mapped}

-- ---- equal fields

same_dep : (d e : Dep) → is_same_dep d e ≡ true → d ≡ e
same_dep d e same =
    let outer = and_parts (bytes_eq d.path e.path && bytes_eq d.name e.name) (bytes_eq d.digest e.digest) same in
    let inner = and_parts (bytes_eq d.path e.path) (bytes_eq d.name e.name) outer.0 in
    let path : d.path ≡ e.path = (bytes_eq-Decides d.path e.path).0 inner.0 in
    let name : d.name ≡ e.name = (bytes_eq-Decides d.name e.name).0 inner.1 in
    let digest : d.digest ≡ e.digest = (bytes_eq-Decides d.digest e.digest).0 outer.1 in
    ap (λ (t : Text). dep t d.name d.digest) path ∙ ap (λ (t : Text). dep e.path t d.digest) name ∙ ap (λ (t : List ℕ). dep e.path e.name t) digest
  where
    dep : Text → Text → List ℕ → Dep
    dep path name digest = record { path = path; name = name; digest = digest }

dep_itself : (d : Dep) → is_same_dep d d ≡ true
dep_itself d = and_from _ _ (and_from _ _ ((bytes_eq-Decides d.path d.path).1 refl) ((bytes_eq-Decides d.name d.name).1 refl)) ((bytes_eq-Decides d.digest d.digest).1 refl)

dep_decides : (d e : Dep) → Decides (is_same_dep d e) (d ≡ e)
dep_decides d e = (same_dep d e, λ same. ap (is_same_dep d) (sym same) ∙ dep_itself d)

deps_decide : (ds es : List Dep) → Decides (pointwise is_same_dep ds es) (ds ≡ es)
deps_decide ds es = slice_eq-Decides dep_decides ds es (pointwise is_same_dep ds es) refl

same_claim : (c d : Claim) → claim_same c d ≡ true → c ≡ d
same_claim c d same =
    let parts = and_parts (c.round == d.round) (c.member == d.member) same in
    let round : c.round ≡ d.round = eqb-true c.round d.round parts.0 in
    let member : c.member ≡ d.member = eqb-true c.member d.member parts.1 in
    ap (λ (n : ℕ). claim n c.member) round ∙ ap (λ (n : ℕ). claim d.round n) member
  where
    claim : ℕ → ℕ → Claim
    claim round member = record { round = round; member = member }

claim_itself : (c : Claim) → claim_same c c ≡ true
claim_itself c = and_from _ _ (eq-eqb c.round c.round refl) (eq-eqb c.member c.member refl)

-- ---- one record after others

-- there is no fault if all tests hold
pub no_fault : (front : List Content) (first c : Content) → is_above (option_map (λ before. before.path) (last_of front)) c.path ≡ true → IsAlike first c → unlike_fault front first c ≡ None
no_fault front first c above alike =
    let path : is_next_path front first c ≡ true = and_from _ _ above ((bytes_eq-Decides (without_subpackage c.path) (without_subpackage first.path)).1 alike.group) in
    let host : (c.host == first.host) ≡ true = eq-eqb c.host first.host alike.host in
    let claim : claim_same c.claim first.claim ≡ true = ap (claim_same c.claim) (sym alike.claim) ∙ claim_itself c.claim in
    let built : pointwise is_same_dep c.built first.built ≡ true = (deps_decide c.built first.built).1 alike.built in
    rw (path, host, claim, built) refl

tests_fail : {F : Type 0} (p q r s : Bool) (e f g h : F) → cond (not p) (Some e) (cond (not q) (Some f) (cond (not r) (Some g) (cond (not s) (Some h) None))) ≡ None
    → (p ≡ true) × (q ≡ true) × (r ≡ true) × (s ≡ true)
tests_fail false q r s e f g h none = absurd cc
tests_fail true false r s e f g h none = absurd cc
tests_fail true true false s e f g h none = absurd cc
tests_fail true true true false e f g h none = absurd cc
tests_fail true true true true e f g h none = (refl, refl, refl, refl)

-- what holds of a record without a fault
pub faultless : (front : List Content) (first c : Content) → unlike_fault front first c ≡ None
    → (is_above (option_map (λ before. before.path) (last_of front)) c.path ≡ true) × IsAlike first c
faultless front first c none =
    let t = tests_fail (is_next_path front first c) (c.host == first.host) (claim_same c.claim first.claim) (pointwise is_same_dep c.built first.built) _ _ _ _ none in
    let path = and_parts (is_above (option_map (λ before. before.path) (last_of front)) c.path) (bytes_eq (without_subpackage c.path) (without_subpackage first.path)) t.0 in (
      path.0,
      record {
        group = (bytes_eq-Decides (without_subpackage c.path) (without_subpackage first.path)).0 path.1;
        host = eqb-true c.host first.host t.1;
        claim = same_claim c.claim first.claim t.2;
        built = (deps_decide c.built first.built).0 t.3;
      },
    )

-- ---- all records

-- each may follow those before it
abbrev pub AllFollow : List Content → List Content → Type 0
AllFollow front [] = Unit {0}
AllFollow front (c ∷ cs) = (next_fault front c ≡ None) × AllFollow (front ++ c ∷ []) cs

paths_behind : (front : List Content) (c : Content) (cs : List Content) → paths_of (front ++ c ∷ cs) ≡ paths_of front ++ c.path ∷ paths_of cs
paths_behind front c cs = map-append (λ c. c.path) front (c ∷ cs)

follow_behind : (c : Content) (front cs : List Content) → is_ascending (paths_of ((c ∷ front) ++ cs)) ≡ true → All (IsAlike c) cs → AllFollow (c ∷ front) cs
follow_behind c front [] up alike = tt
follow_behind c front (d ∷ ds) up alike =
    let above : is_above (option_map (λ before. before.path) (last_of (c ∷ front))) d.path ≡ true =
    ap (λ (o : Option Text). is_above o d.path) (last_mapped (λ c. c.path) (c ∷ front))
    ∙ ascending_above (paths_of (c ∷ front)) d.path (paths_of ds) (ap is_ascending (sym (paths_behind (c ∷ front) d ds)) ∙ up) in (
      no_fault (c ∷ front) c d above (alike 0 d (omega arith)),
      follow_behind c (front ++ d ∷ []) ds (ap (λ (xs : List Content). is_ascending (paths_of xs)) (append_assoc (c ∷ front) (d ∷ []) ds) ∙ up) (λ k x below. alike (suc k) x (omega arith)),
    )

pub all_follow : (cs : List Content) → is_ascending (paths_of cs) ≡ true → AreAlike cs → AllFollow [] cs
all_follow [] up alike = absurd alike
all_follow (c ∷ cs) up alike = (refl, follow_behind c [] cs up alike)

-- records that follow one another ascend, and can be of one build
followed : (c : Content) (front cs : List Content) → is_ascending (paths_of (c ∷ front)) ≡ true → AllFollow (c ∷ front) cs
    → (is_ascending (paths_of ((c ∷ front) ++ cs)) ≡ true) × All (IsAlike c) cs
followed c front [] up follow = (ap (λ (xs : List Content). is_ascending (paths_of xs)) (append-nil (c ∷ front)) ∙ up, All-nil (IsAlike c))
followed c front (d ∷ ds) up follow =
    let here = faultless (c ∷ front) c d follow.0 in
    let above : is_above (last_of (paths_of (c ∷ front))) d.path ≡ true = ap (λ (o : Option Text). is_above o d.path) (sym (last_mapped (λ c. c.path) (c ∷ front))) ∙ here.0 in
    let more : is_ascending (paths_of (c ∷ (front ++ d ∷ []))) ≡ true = ap is_ascending (paths_behind (c ∷ front) d []) ∙ ascending_more (paths_of (c ∷ front)) d.path up above in
    let behind = followed c (front ++ d ∷ []) ds more follow.1 in (
      ap (λ (xs : List Content). is_ascending (paths_of xs)) (sym (append_assoc (c ∷ front) (d ∷ []) ds)) ∙ behind.0,
      All-cons (IsAlike c) d ds here.1 behind.1,
    )

pub are_alike : (cs : List Content) → 0 < length cs → AllFollow [] cs → (is_ascending (paths_of cs) ≡ true) × AreAlike cs
are_alike [] some follow = absurd (omega arith)
are_alike (c ∷ cs) some follow = followed c [] cs refl follow.1

-- ---- two lists of dependencies, one pair after the other

pub deps_next : (ds es : List Dep) (i : ℕ) (d e : Dep) → i < length ds → i < length es → d ≡ get_or ds i d → e ≡ get_or es i e
    → pointwise is_same_dep (drop i ds) (drop i es) ≡ (is_same_dep d e && pointwise is_same_dep (drop (i + 1) ds) (drop (i + 1) es))
deps_next ds es i d e low high here there = rw (drop_one ds i d low here, drop_one es i e high there) refl

pub deps_end : (ds es : List Dep) (i : ℕ) → length ds ≤ i → length es ≤ i → pointwise is_same_dep (drop i ds) (drop i es) ≡ true
deps_end ds es i low high = rw (drop_all i ds low, drop_all i es high) refl

pub deps_differ : (ds es : List Dep) → length ds ≢ length es → pointwise is_same_dep ds es ≡ false
deps_differ [] [] differ = absurd (differ refl)
deps_differ [] (e ∷ es) differ = refl
deps_differ (d ∷ ds) [] differ = refl
deps_differ (d ∷ ds) (e ∷ es) differ = rw (deps_differ ds es (λ same. differ (ap suc same))) (and_false (is_same_dep d e))
  where
    and_false : (b : Bool) → (b && false) ≡ false
    and_false true = refl
    and_false false = refl
