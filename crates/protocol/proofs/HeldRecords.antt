-- Records that are held, and what is built on them.
use Rattle.std.proofs.Common.{◌≡◌, ◌<◌, ℕ, Bool, true, false, All, List, [], ◌∷◌, length, map}
use Rattle.std.proofs.Common.{Option, None, Some, refl, sym, ap, ap₂, subst, ◌∙◌, option_map}
use Rattle.std.proofs.Common.{if◌then◌else◌}
use Rattle.std.specs.Prelude.{Contains, filter_map, find, is_some, option_and_then, unwrap_or}
use Rattle.std.specs.List.{cons_option}
use Rattle.std.specs.Str.{bytes_eq}
use Rattle.std.proofs.lemmas.Bool.{false≢true}
use Rattle.std.proofs.lemmas.List.Elements.{All-contains, All-cons, All-nil}
use Rattle.faults.specs.Bytes.{Text}
use Rattle.faults.specs.Pieces.{set_of}
use Rattle.faults.proofs.Members.{contains_first, contains_later, has_preimage}
use Rattle.faults.proofs.Sets.{from_set}
use Rattle.claims.specs.declared.deps.Dep.{Dep}
use Rattle.engine.specs.Tree.{IsTree, path_at}
use Rattle.package_record.specs.Content.{Content}
use Rattle.engine.specs.Division.{number_of, unit_at}
use Rattle.engine.proofs.Places.{has_position, same_bytes}
use Rattle.protocol.specs.State.{State, Value, facts_at, held_record, holds_package, is_held_any}
use Rattle.protocol.specs.State.{record_in, unit_with}
use Rattle.protocol.specs.Answers.{Answer, after}
use Rattle.protocol.specs.Jobs.{deps_of, in_order_of_path, signature}
use Rattle.protocol.specs.Laws.{BuildsStandOnWhatIsHeld, JobsHaveAllTheyNeed}
use Rattle.protocol.proofs.Known.{held_stays}

-- the record of a path in what is held of a unit, if there is a unit
abbrev record_at : State → Text → Option ℕ → Option Content
record_at s path u = option_and_then (λ u. option_and_then (record_in path) (facts_at s u).held) u

-- a record that is held stays held
pub record_stays : (s : State) (a : Answer) (path : Text) (r : Content)
    → held_record s path ≡ Some r → held_record (after s a) path ≡ Some r
record_stays s a path r e = by_unit (unit_with s.division path) e
  where
    by_build : (u : ℕ) (h : Option Value) → (facts_at s u).held ≡ h
        → option_and_then (record_in path) h ≡ Some r → record_at (after s a) path (Some u) ≡ Some r
    by_build u None at e = absurd (let no : None ≡ Some r = e in cc)
    by_build u (Some v) at e = ap (option_and_then (record_in path)) (held_stays s a u v at) ∙ e

    by_unit : (u : Option ℕ) → record_at s path u ≡ Some r → record_at (after s a) path u ≡ Some r
    by_unit None e = e
    by_unit (Some u) e = by_build u (facts_at s u).held refl e

-- if a package is held, its record is the same after a step
same_record : (s : State) (a : Answer) (p : ℕ) → IsTree s.division.tree → p < length s.division.tree
    → holds_package s p ≡ true
    → held_record (after s a) (path_at s.division.tree p) ≡ held_record s
    (path_at s.division.tree p)
same_record s a p is lt held =
    ap (record_at (after s a) path) found ∙ by_unit (number_of s.division p) held
    ∙ sym (ap (record_at s path) found)
  where
    path : Text
    path = path_at s.division.tree p

    found : unit_with s.division path ≡ number_of s.division p
    found = ap (option_and_then (number_of s.division))
        (has_position s.division.tree path p is lt refl)

    by_build : (u : ℕ) (h : Option Value) → (facts_at s u).held ≡ h → is_some h ≡ true
        → record_at (after s a) path (Some u) ≡ record_at s path (Some u)
    by_build u None at e = absurd (false≢true e)
    by_build u (Some v) at e =
        ap (option_and_then (record_in path)) (held_stays s a u v at)
        ∙ sym (ap (option_and_then (record_in path)) at)

    by_unit : (u : Option ℕ) → is_held_any s u ≡ true
        → record_at (after s a) path u ≡ record_at s path u
    by_unit None e = absurd (false≢true e)
    by_unit (Some u) e = by_build u (facts_at s u).held refl e

-- functions that agree at each element filter a list alike
filter_map-same : {X Y : Type 0} (f g : X → Option Y) (xs : List X)
    → ((x : X) → Contains xs x → f x ≡ g x) → filter_map f xs ≡ filter_map g xs
filter_map-same f g [] same = refl
filter_map-same f g (x ∷ xs) same =
    ap₂ cons_option (same x (contains_first x xs))
    (filter_map-same f g xs (λ y later. same y (contains_later x y xs later)))

-- So the signatures for a build stay, if everything that it needs is held.
pub deps_stay : (s : State) (a : Answer) (u : ℕ) → IsTree s.division.tree
    → All (λ p. p < length s.division.tree) (unit_at s.division u).build
    → All (λ p. holds_package s p ≡ true) (unit_at s.division u).build
    → deps_of (after s a) u ≡ deps_of s u
deps_stay s a u is listed held =
    filter_map-same _ _ (in_order_of_path s.division.tree needed)
    (λ path member. ap (option_map signature) (at path member))
  where
    needed : List ℕ
    needed = (unit_at s.division u).build

    at : (path : Text) → Contains (in_order_of_path s.division.tree needed) path
        → held_record (after s a) path ≡ held_record s path
    at path member =
        let p = has_preimage (path_at s.division.tree) needed path
        (from_set (map (path_at s.division.tree) needed) path member) in
        subst (λ t. held_record (after s a) t ≡ held_record s t) p.2
        (same_record s a p.0 is
        (All-contains (λ q. q < length s.division.tree) needed p.0 listed p.1)
        (All-contains (λ q. holds_package s q ≡ true) needed p.0 held p.1))

-- ---- signatures

-- what is found passes the test
found_passes : {X : Type 0} (test : X → Bool) (xs : List X) (x : X) → find test xs ≡ Some x
    → test x ≡ true
found_passes test [] x e = absurd (let no : None ≡ Some x = e in cc)
found_passes {X} test (y ∷ ys) x e = by_test (test y) refl e (λ later. found_passes test ys x later)
  where
    by_test : (b : Bool) → test y ≡ b → (if b then Some y else find test ys) ≡ Some x
        → (find test ys ≡ Some x → test x ≡ true) → test x ≡ true
    by_test true t e behind = let same : y ≡ x = ap (λ o. unwrap_or o y) e in ap test (sym same) ∙ t
    by_test false t e behind = behind e

-- the record that is held for a path has that path
pub record_has_path : (s : State) (path : Text) (r : Content) → held_record s path ≡ Some r
    → r.path ≡ path
record_has_path s path r e = by_unit (unit_with s.division path) e
  where
    by_build : (h : Option Value) → option_and_then (record_in path) h ≡ Some r → r.path ≡ path
    by_build None e = absurd (let no : None ≡ Some r = e in cc)
    by_build (Some v) e = same_bytes r.path path (found_passes (λ c. bytes_eq c.path path) v r e)

    by_unit : (u : Option ℕ) → record_at s path u ≡ Some r → r.path ≡ path
    by_unit None e = absurd (let no : None ≡ Some r = e in cc)
    by_unit (Some u) e = by_build (facts_at s u).held e

-- the dependency is the signature of a held record
abbrev pub IsSignedBy : State → Dep → Type 0
IsSignedBy s d = (r : Content) × (held_record s d.path ≡ Some r) × (d ≡ signature r)

all_signed : (s : State) (paths : List Text)
    → All (IsSignedBy s) (filter_map (λ path. option_map signature (held_record s path)) paths)
all_signed s [] = All-nil (IsSignedBy s)
all_signed s (path ∷ paths) = by_record (held_record s path) refl (all_signed s paths)
  where
    rest : List Dep
    rest = filter_map (λ path. option_map signature (held_record s path)) paths

    by_record : (o : Option Content) → held_record s path ≡ o → All (IsSignedBy s) rest
        → All (IsSignedBy s) (cons_option (option_map signature o) rest)
    by_record None e behind = behind
    by_record (Some r) e behind =
        All-cons (IsSignedBy s) (signature r) rest
        (r, ap (held_record s) (record_has_path s path r e) ∙ e, refl) behind

pub builds_stand : BuildsStandOnWhatIsHeld
builds_stand s u = all_signed s (in_order_of_path s.division.tree (unit_at s.division u).build)

-- if a record is held for each path, all paths are signed
paths_signed : (s : State) (paths : List Text)
    → ((path : Text) → Contains paths path → (r : Content) × (held_record s path ≡ Some r))
    → map (λ d. d.path) (filter_map (λ path. option_map signature (held_record s path)) paths) ≡
    paths
paths_signed s [] held = refl
paths_signed s (path ∷ paths) held =
    let r = held path (contains_first path paths) in
    let behind = filter_map (λ path. option_map signature (held_record s path)) paths in
    ap (λ o. map (λ d. d.path) (cons_option (option_map signature o) behind)) r.1
    ∙ ap₂ ◌∷◌ (record_has_path s path r.0 r.1)
    (paths_signed s paths (λ p later. held p (contains_later path p paths later)))

pub jobs_have_all : JobsHaveAllTheyNeed
jobs_have_all s u held =
    paths_signed s (set_of (map (path_at s.division.tree) needed)) at
  where
    needed : List ℕ
    needed = (unit_at s.division u).build

    at : (path : Text) → Contains (set_of (map (path_at s.division.tree) needed)) path
        → (r : Content) × (held_record s path ≡ Some r)
    at path member =
        let p = has_preimage (path_at s.division.tree) needed path
        (from_set (map (path_at s.division.tree) needed) path member) in
        subst (λ t. (r : Content) × (held_record s t ≡ Some r)) p.2
        (All-contains (λ q. (r : Content) × (held_record s (path_at s.division.tree q) ≡ Some r))
        needed p.0 held p.1)
