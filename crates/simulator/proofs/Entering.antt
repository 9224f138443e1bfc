-- A world's tables are extended at their ends.
use Rattle.std.proofs.Common.{◌≡◌, ◌≢◌, ◌<◌, ◌≤◌, ◌+◌, ℕ, zero, suc, Bool, true, false, cond, List, [], ◌∷◌, ◌++◌, length, map, take, get_or, refl, sym, ap, subst, ◌∙◌, arith, append_assoc, ◌||◌}
use Rattle.std.specs.Prelude.{AllPairs}
use Rattle.std.specs.List.{list_any}
use Rattle.std.specs.Str.{bytes_eq}
use Rattle.std.specs.Cmp.Lexicographic.{nat_list_eq_equiv}
use Rattle.std.proofs.lemmas.Bool.{or_parts}
use Rattle.std.proofs.lemmas.List.{append-nil, get_or-map, get_or-take, get_or_default, length-map, length-take, map-append, take-map, take-take, take_all, take_at, take_more}
use Rattle.std.proofs.lemmas.List.Folds.{list_any-append, list_any_none}
use Rattle.faults.specs.Bytes.{Text}
use Rattle.world.proofs.Entering as datagrams
use Rattle.indexmap.specs.IndexSet.{insert_key}
use Rattle.package_record.specs.Build.{IsBuild, paths_of, unit_path}
use Rattle.package_record.specs.Content.{Content}
use Rattle.engine.proofs.Places.{same_bytes}
use Rattle.world.proofs.DistinctEntries.{build_paths_differ}
use Rattle.world.specs.Lists.{has_path}
use Rattle.simulator.specs.declared.tables.Tables.{Tables}
use Rattle.simulator.specs.inside.Tables.{HasGrown, list_in}

-- ---- tables that grow

-- a prefix of a prefix is a prefix of the whole
begins_on : {X : Type 0} (m n : ℕ) (a b c : List X) → length a ≡ m → length b ≡ n → take m b ≡ a
    → take n c ≡ b → take m c ≡ a
begins_on m n a b c short long ab bc =
    let less : m ≤ n = omega (arith, length-take m b, ap length ab, short, long) in
    sym (take-take m n c less) ∙ ap (take m) bc ∙ ab

-- extending is transitive
pub grown_on : (p q r : Tables) → HasGrown p q → HasGrown q r → HasGrown p r
grown_on p q r first then = record {
  sent = datagrams.grown_on p.sent q.sent r.sent first.sent then.sent;
  list = begins_on _ _ (list_in p) (list_in q) (list_in r) refl refl first.list then.list;
  listed = begins_on _ _ p.listed.keys q.listed.keys r.listed.keys refl refl first.listed
      then.listed;
}

-- tables with more at the ends of their lists are extended
pub grown_by : (p q : Tables) (sent : List Text) (list : List Content) (listed : List Text)
    → q.sent ≡ p.sent ++ sent → list_in q ≡ list_in p ++ list
    → q.listed.keys ≡ p.listed.keys ++ listed → HasGrown p q
grown_by p q sent list listed es el ek = record {
  sent = ap (take (length p.sent)) es ∙ take_at p.sent sent (length p.sent) refl;
  list = ap (take (length p.agreed.items)) el
      ∙ take_at (list_in p) list (length p.agreed.items) refl;
  listed = ap (take (length p.listed.keys)) ek
      ∙ take_at p.listed.keys listed (length p.listed.keys) refl;
}

-- equal lists are extended by nothing
pub grown_none : (p q : Tables) → q.sent ≡ p.sent → list_in q ≡ list_in p
    → q.listed.keys ≡ p.listed.keys → HasGrown p q
grown_none p q es el ek = record {
  sent = ap (take (length p.sent)) es ∙ datagrams.grown_none p.sent;
  list = ap (take (length p.agreed.items)) el
      ∙ take_all (length p.agreed.items) (list_in p) (omega arith);
  listed = ap (take (length p.listed.keys)) ek
      ∙ take_all (length p.listed.keys) p.listed.keys (omega arith);
}

-- tables with only one more path are extended
pub grown_key : (p q : Tables) (path : Text) → q.sent ≡ p.sent → list_in q ≡ list_in p
    → q.listed.keys ≡ insert_key bytes_eq p.listed.keys path → HasGrown p q
grown_key p q path es el ek = by_case (list_any (bytes_eq path) p.listed.keys) ek
  where
    by_case : (b : Bool) → q.listed.keys ≡ cond b p.listed.keys (p.listed.keys ++ path ∷ [])
        → HasGrown p q
    by_case true e = grown_none p q es el e
    by_case false e = grown_by p q [] [] (path ∷ []) (es ∙ sym (append-nil p.sent))
        (el ∙ sym (append-nil (list_in p))) e

-- ---- the list

-- a path in the set is that of a package in the list
pub paths_have : (list : List Content) (path : Text)
    → list_any (bytes_eq path) (paths_of list) ≡ has_path list path
paths_have [] path = refl
paths_have (r ∷ rs) path = rw (nat_list_eq_equiv.symm path r.path, paths_have rs path) refl

pub any_have : (list packages : List Content) (keys : List Text) → keys ≡ paths_of list
    → list_any (λ (r : Content). list_any (bytes_eq r.path) keys) packages
    ≡ list_any (λ (r : Content). has_path list r.path) packages
any_have list packages keys are = λ i. list_any
    (λ (r : Content). (ap (list_any (bytes_eq r.path)) are ∙ paths_have list r.path) i) packages

-- an element fails a test that no element passes
none_at : {X : Type 0} (p : X → Bool) (xs : List X) (i : ℕ) (d : X) → i < length xs
    → list_any p xs ≡ false → p (get_or xs i d) ≡ false
none_at p [] i d within none = absurd (omega arith)
none_at p (x ∷ xs) zero d within none = (or_parts (p x) (list_any p xs) none).0
none_at p (x ∷ xs) (suc i) d within none = none_at p xs i d (omega (arith, within))
    (or_parts (p x) (list_any p xs) none).1

-- a text is not among those before it, if all differ
not_before : (ts : List Text) → AllPairs ◌≢◌ ts → (i : ℕ) → i < length ts
    → list_any (bytes_eq (get_or ts i [])) (take i ts) ≡ false
not_before ts apart i within = list_any_none (bytes_eq (get_or ts i [])) (take i ts) (λ k d below.
    by_case k d (omega (arith, below, length-take i ts))
    (bytes_eq (get_or ts i []) (get_or (take i ts) k d)) refl)
  where
    by_case : (k : ℕ) (d : Text) → k < i → (b : Bool)
        → bytes_eq (get_or ts i []) (get_or (take i ts) k d) ≡ b
        → bytes_eq (get_or ts i []) (get_or (take i ts) k d) ≡ false
    by_case k d below false e = e
    by_case k d below true e =
        let same : get_or ts i [] ≡ get_or ts k d =
        same_bytes (get_or ts i []) (get_or (take i ts) k d) e ∙ get_or-take i ts k d below in
        absurd (apart k i [] below within (get_or_default ts k [] d (omega (arith, below, within))
        ∙ sym same))

-- So the path of the build's next package is neither in the list nor that of an earlier package of
-- the build.
pub next_is_new : (list build : List Content) → IsBuild build
    → list_any (λ r. has_path list r.path) build ≡ false → (i : ℕ) (r : Content) → i < length build
    → r ≡ get_or build i r
    → list_any (bytes_eq r.path) (paths_of (list ++ take i build)) ≡ false
next_is_new list build is none i r within here =
    let path : get_or (paths_of build) i [] ≡ r.path =
    get_or-map (λ (c : Content). c.path) build i r [] within
    ∙ ap (λ (c : Content). c.path) (sym here) in
    let long : length (paths_of build) ≡ length build =
    length-map build (λ (c : Content). c.path) in
    let old : has_path list r.path ≡ false = ap (λ (c : Content). has_path list c.path) here
    ∙ none_at (λ c. has_path list c.path) build i r within none in
    let new : list_any (bytes_eq r.path) (take i (paths_of build)) ≡ false =
    subst (λ p. list_any (bytes_eq p) (take i (paths_of build)) ≡ false) path
    (not_before (paths_of build) (build_paths_differ (unit_path build) build
    (record { build_is = is; unit = refl })) i (omega (arith, within, long))) in
    ap (list_any (bytes_eq r.path)) (map-append (λ (c : Content). c.path) list (take i build))
    ∙ list_any-append (bytes_eq r.path) (paths_of list) (paths_of (take i build))
    ∙ ap (λ b. b || list_any (bytes_eq r.path) (paths_of (take i build)))
    (paths_have list r.path ∙ old)
    ∙ ap (list_any (bytes_eq r.path)) (sym (take-map (λ (c : Content). c.path) i build)) ∙ new

-- then it is appended, and so is its package
pub path_entered : (list build : List Content) → IsBuild build
    → list_any (λ r. has_path list r.path) build ≡ false → (i : ℕ) (r : Content) → i < length build
    → r ≡ get_or build i r
    → (keys now : List Text) (old new : List Content) → keys ≡ paths_of old
    → old ≡ list ++ take i build
    → now ≡ insert_key bytes_eq keys r.path → new ≡ old ++ r ∷ []
    → (now ≡ paths_of new) × (new ≡ list ++ take (i + 1) build)
path_entered list build is none i r within here keys now old new listed before entered appended =
    let absent : list_any (bytes_eq r.path) keys ≡ false =
    ap (list_any (bytes_eq r.path)) (listed ∙ ap paths_of before)
    ∙ next_is_new list build is none i r within here in
    let last : now ≡ keys ++ r.path ∷ [] = entered
    ∙ ap (λ b. cond b keys (keys ++ r.path ∷ [])) absent in
    let more : take i build ++ r ∷ [] ≡ take (i + 1) build = ap (λ x. take i build ++ x ∷ []) here
    ∙ sym (take_more build i r within) in (
      last ∙ ap (λ l. l ++ r.path ∷ []) listed
          ∙ sym (map-append (λ (c : Content). c.path) old (r ∷ [])) ∙ ap paths_of (sym appended),
      appended ∙ ap (λ l. l ++ r ∷ []) before ∙ append_assoc list (take i build) (r ∷ [])
          ∙ ap (λ l. list ++ l) more,
    )
