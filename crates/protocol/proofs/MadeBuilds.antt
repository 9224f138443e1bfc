-- What is made by a job is a build of its unit.
use Rattle.std.proofs.Common.{◌≡◌, ◌<◌, ◌≤◌, ℕ, Bool, true, false, cond, All, List, []}
use Rattle.std.proofs.Common.{◌∷◌, length, map, Option, None, Some, Less, Greater, arith}
use Rattle.std.proofs.Common.{refl, sym, ap, subst, ◌∙◌, option_map}
use Rattle.std.specs.Prelude.{Contains, filter_map, find, option_and_then, unwrap_or}
use Rattle.std.specs.Option.{ForSome}
use Rattle.std.specs.List.{cons_option, list_all, slice_index_or}
use Rattle.std.specs.Ordering.{is_lt, ordering_reverse}
use Rattle.std.specs.Str.{bytes_eq}
use Rattle.std.specs.Cmp.Lexicographic.{nat_list_cmp_total}
use Rattle.std.proofs.lemmas.Bool.{and_from, and_parts}
use Rattle.std.proofs.lemmas.List.{length-map}
use Rattle.std.proofs.lemmas.List.Elements.{All-contains, All-get_or, All-map, All-weaker}
use Rattle.std.proofs.lemmas.List.Elements.{Contains-get_or}
use Rattle.sha2.proofs.Facts256.{length-sha256}
use Rattle.faults.specs.Bytes.{Text}
use Rattle.faults.specs.Pieces.{text_cmp}
use Rattle.faults.proofs.Ascending.{Rising}
use Rattle.faults.proofs.Members.{contains_first, contains_later, has_preimage}
use Rattle.faults.proofs.Sets.{from_set, set_rises}
use Rattle.claims.specs.Member.{Facts, no_facts}
use Rattle.claims.specs.declared.claim.Claim.{Claim}
use Rattle.claims.specs.Claim.{IsClaim}
use Rattle.claims.specs.Deps.{AreInOrder, is_ascending}
use Rattle.claims.specs.declared.deps.Dep.{Dep}
use Rattle.engine.specs.Tree.{ArePositions, Tree, no_package, path_at}
use Rattle.engine.specs.Tree.{run_at}
use Rattle.package_record.specs.PkgName.{IsName}
use Rattle.package_record.specs.PkgPath.{IsPath}
use Rattle.package_record.specs.Build.{AreAlike, IsAlike, IsBuild, paths_of, unit_path}
use Rattle.package_record.specs.Content.{Content, IsDep, IsRecord}
use Rattle.package_record.specs.Laws.{CanBeMade}
use Rattle.package_record.specs.Making.{build_fault}
use Rattle.package_record.proofs.BuildsMade.{made_is_build}
use Rattle.package_record.proofs.Digests.{sha256_bytes}
use Rattle.engine.specs.Division.{unit_at}
use Rattle.engine.specs.UnitLaws.{IsWellMade}
use Rattle.engine.proofs.Kept.{all_listed, unit_good, unit_some}
use Rattle.protocol.specs.Given.{Given}
use Rattle.protocol.specs.State.{State, Value, facts_at, held_record, name_at, record_in, unit_with}
use Rattle.protocol.specs.Member.{IsMember}
use Rattle.protocol.specs.Jobs.{deps_of, in_order_of_path, job_of, record_by, signature}
use Rattle.protocol.specs.Laws.{BuildsAreOfTheirUnit}
use Rattle.protocol.proofs.HeldRecords.{IsSignedBy, builds_stand, record_has_path}
use Rattle.protocol.proofs.Known.{at_any}
use Rattle.protocol.proofs.PackageOrder.{few_packages, grouped, paths_ascend, set_ascends}

-- ---- lists

-- what holds of each element holds of all
all_members : {X : Type 0} (P : X → Type 0) (xs : List X) → ((x : X) → Contains xs x → P x)
    → All P xs
all_members P xs each k d lt = each (slice_index_or xs k d) (Contains-get_or xs k d lt)

-- what is found is an element
found_member : {X : Type 0} (test : X → Bool) (xs : List X) (x : X) → find test xs ≡ Some x
    → Contains xs x
found_member test [] x e = absurd (let no : None ≡ Some x = e in cc)
found_member {X} test (y ∷ ys) x e = by_test (test y) e (λ later. found_member test ys x later)
  where
    by_test : (b : Bool) → cond b (Some y) (find test ys) ≡ Some x
        → (find test ys ≡ Some x → Contains ys x) → Contains (y ∷ ys) x
    by_test true e behind = let same : y ≡ x = ap (λ o. unwrap_or o y) e in
        subst (Contains (y ∷ ys)) same (contains_first y ys)
    by_test false e behind = contains_later y x ys (behind e)

-- no text is below itself
not_below_itself : (t : Text) → text_cmp t t ≡ Less → ⊥
not_below_itself t e = let no : Less ≡ Greater = sym e
    ∙ (nat_list_cmp_total.antisymm t t ∙ ap ordering_reverse e) in cc

-- ---- what is held, if it consists of builds

module _ (s : State) (are : All (λ (f : Facts Value). ForSome f.held IsBuild) s.facts) where
  held_is_build : (u : ℕ) → ForSome (facts_at s u).held IsBuild
  held_is_build u = at_any (λ (f : Facts Value). ForSome f.held IsBuild) s.facts u no_facts are
      (λ v e. absurd (let no : None ≡ Some v = e in cc))

  -- a held record is a record
  held_is_record : (path : Text) (r : Content) → held_record s path ≡ Some r → IsRecord r
  held_is_record path r e = by_unit (unit_with s.division path) e
    where
      by_build : (h : Option Value) → ForSome h IsBuild
          → option_and_then (record_in path) h ≡ Some r → IsRecord r
      by_build None is e = absurd (let no : None ≡ Some r = e in cc)
      by_build (Some v) is e =
          All-contains IsRecord v r (is v refl).records
          (found_member (λ c. bytes_eq c.path path) v r e)

      by_unit : (u : Option ℕ)
          → option_and_then (λ u. option_and_then (record_in path) (facts_at s u).held) u ≡ Some r
          → IsRecord r
      by_unit None e = absurd (let no : None ≡ Some r = e in cc)
      by_unit (Some u) e = by_build (facts_at s u).held (held_is_build u) e

  -- its signature is a dependency
  signed_is_dep : (d : Dep) → IsSignedBy s d → IsDep d
  signed_is_dep d signed =
      let is = held_is_record d.path signed.0 signed.1 in
      subst IsDep (sym signed.2)
      (record {
        path = is.names.path;
        name = is.names.name;
        digest = length-sha256 _;
        bytes =
            sha256_bytes _;
      })

  deps_are_good : (u : ℕ) → All IsDep (deps_of s u)
  deps_are_good u = All-weaker (IsSignedBy s) IsDep signed_is_dep (deps_of s u) (builds_stand s u)

-- ---- the order of dependencies

-- the signatures of what is held of these paths
abbrev signed : State → List Text → List Dep
signed s paths = filter_map (λ path. option_map signature (held_record s path)) paths

-- a test that passes for all paths passes for the signed ones
signed_pass : (s : State) (test : Text → Bool) (paths : List Text) → list_all test paths ≡ true
    → list_all test (map (λ d. d.path) (signed s paths)) ≡ true
signed_pass s test [] e = refl
signed_pass s test (path ∷ paths) e =
    let parts = and_parts (test path) (list_all test paths) e in
    by_record (held_record s path) refl parts.0 (signed_pass s test paths parts.1)
  where
    by_record : (o : Option Content) → held_record s path ≡ o → test path ≡ true
        → list_all test (map (λ d. d.path) (signed s paths)) ≡ true
        → list_all test (map (λ d. d.path) (cons_option (option_map signature o) (signed s paths)))
        ≡ true
    by_record None at here behind = behind
    by_record (Some r) at here behind =
        and_from _ _ (ap test (record_has_path s path r at) ∙ here) behind

signed_ascend : (s : State) (paths : List Text) → is_ascending paths ≡ true
    → is_ascending (map (λ d. d.path) (signed s paths)) ≡ true
signed_ascend s [] e = refl
signed_ascend s (path ∷ paths) e =
    let parts = and_parts (list_all (λ u. is_lt (text_cmp path u)) paths) (is_ascending paths) e in
    by_record (held_record s path) refl (signed_pass s (λ u. is_lt (text_cmp path u)) paths parts.0)
    (signed_ascend s paths parts.1)
  where
    later : List Text
    later = map (λ d. d.path) (signed s paths)

    by_record : (o : Option Content) → held_record s path ≡ o
        → list_all (λ u. is_lt (text_cmp path u)) (map (λ d. d.path) (signed s paths)) ≡ true
        → is_ascending (map (λ d. d.path) (signed s paths)) ≡ true
        → is_ascending (map (λ d. d.path) (cons_option (option_map signature o) (signed s paths))) ≡
        true
    by_record None at above behind = behind
    by_record (Some r) at above behind =
        and_from _ _ (ap (λ t. list_all (λ u. is_lt (text_cmp t u))
        (map (λ d. d.path) (signed s paths))) (record_has_path s path r at) ∙ above) behind

pub deps_in_order : (s : State) (u : ℕ) → AreInOrder (deps_of s u)
deps_in_order s u = signed_ascend s (in_order_of_path s.division.tree (unit_at s.division u).build)
    (set_ascends (map (path_at s.division.tree) (unit_at s.division u).build))

-- ---- the build

module _ (s : State) (u host : ℕ) (c : Claim) (given : Given) (is : IsMember s)
    (lt : u < length s.division.units) (in_range : host ≤ 65535) (claim : IsClaim c)
    (are : All (λ (f : Facts Value). ForSome f.held IsBuild) s.facts) where
  abbrev tree : Tree
  tree = s.division.tree

  abbrev packages : List ℕ
  packages = (unit_at s.division u).packages

  abbrev made : ℕ → Content
  made = record_by tree (job_of s u host c) given

  good : IsWellMade tree (unit_at s.division u)
  good = unit_good s.division u is.division lt

  is_path : (p : ℕ) → p < length tree → IsPath (path_at tree p)
  is_path p within = All-get_or (λ x. IsPath x.path) tree p no_package within is.division.tree.paths

  run_paths : (p : ℕ) → p < length tree → All IsPath (in_order_of_path tree (run_at tree p))
  run_paths p within =
      all_members IsPath (in_order_of_path tree (run_at tree p))
      (λ path member.
      let q = has_preimage (path_at tree) (run_at tree p) path
      (from_set (map (path_at tree) (run_at tree p)) path member) in
      let listed = (All-get_or (λ x. ArePositions tree x.run) tree p no_package within
      is.division.tree.run).within in
      subst IsPath q.2 (is_path q.0
      (All-contains (λ k. k < length tree) (run_at tree p) q.0 listed q.1)))

  can_be_made : (p : ℕ) → p < length tree → CanBeMade (made p)
  can_be_made p within = record {
    names = record {
      path = is_path p within;
      name = All-get_or (λ x. IsName x.name) tree p no_package within is.division.tree.names;
      built = deps_are_good s are u;
      run = run_paths p within;
    };
    host = in_range;
    claim = claim;
    built = deps_in_order s u;
    run = set_ascends (map (path_at tree) (run_at tree p));
  }

  paths_made : (ps : List ℕ) → paths_of (map made ps) ≡ map (path_at tree) ps
  paths_made [] = refl
  paths_made (p ∷ ps) = ap (λ ts. path_at tree p ∷ ts) (paths_made ps)

  all_alike : (ps : List ℕ) → packages ≡ ps → 0 < length ps → AreAlike (map made ps)
  all_alike [] e some = absurd (omega (arith, some))
  all_alike (p ∷ ps) e some =
      All-map (IsAlike (made p)) made ps
      (all_members (λ q. IsAlike (made p) (made q)) ps
      (λ q later. record {
        group = grouped s.division u is.division lt p q (subst (λ ks. Contains ks p) (sym e) (contains_first p ps))
            (subst (λ ks. Contains ks q) (sym e) (contains_later p q ps later));
        host = refl;
        claim = refl;
        built = refl;
      }))

  -- the name of the unit is that of the build
  named_so : (ps : List ℕ) → packages ≡ ps → 0 < length ps → Rising text_cmp (map (path_at tree) ps)
      → unit_path (map made ps) ≡ name_at s u
  named_so [] e some rising = absurd (omega (arith, some))
  named_so (p ∷ []) e some rising = sym (good.named.alone p e)
  named_so (p ∷ q ∷ ps) e some rising =
      let below = rising.0 (path_at tree q)
      (contains_first (path_at tree q) (map (path_at tree) ps)) in
      let has_p = subst (λ ks. Contains ks p) (sym e) (contains_first p (q ∷ ps)) in
      let has_q = subst (λ ks. Contains ks q) (sym e)
      (contains_later p q (q ∷ ps) (contains_first q ps)) in
      sym (good.named.alike p q has_p has_q
      (λ same. not_below_itself (path_at tree q)
      (ap (λ k. text_cmp (path_at tree k) (path_at tree q)) (sym same) ∙ below)))

  rising_paths : Rising text_cmp (map (path_at tree) packages)
  rising_paths = subst (Rising text_cmp) (sym good.named.in_order)
      (set_rises (map (path_at tree) packages))

  pub build_of_unit : build_fault (map made packages) ≡ None
      → IsBuild (map made packages) × (unit_path (map made packages) ≡ name_at s u)
  build_of_unit no_fault = (
    made_is_build (map made packages)
        (All-map CanBeMade made packages
        (All-weaker (λ p. p < length tree) (λ p. CanBeMade (made p)) can_be_made packages
        (all_listed s.division u is.division lt)))
        (omega (arith, length-map packages made, few_packages s.division u is.division lt, is.division.tree.few))
        (ap is_ascending (paths_made packages)
        ∙ paths_ascend s.division u is.division lt)
        (all_alike packages refl (unit_some s.division u is.division lt))
        no_fault,
    named_so packages refl (unit_some s.division u is.division lt) rising_paths,
  )

pub builds_are_of_units : BuildsAreOfTheirUnit
builds_are_of_units s u host c given is lt in_range claim are no_fault =
    build_of_unit s u host c given is lt in_range claim are no_fault
