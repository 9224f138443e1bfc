-- An audit accepts the list.
use Rattle.std.proofs.Common.{◌≡◌, ◌≢◌, ◌<◌, ℕ, zero, suc, List, [], ◌∷◌, ◌++◌, length, map, get_or, None, Some, append_assoc, append-nil, refl, sym, ap, subst, arith}
use Rattle.std.specs.Prelude.{All, AllPairs, Any, Contains}
use Rattle.std.proofs.lemmas.List.{map-append}
use Rattle.std.proofs.lemmas.List.Elements.{All-map, All-weaker, Contains-append_left, Contains-append_right}
use Rattle.faults.specs.Bytes.{Text}
use Rattle.claims.specs.AgreedList.{Entry, IsAllowed, lookup}
use Rattle.auditing.specs.Allowed as audit
use Rattle.auditing.specs.Allowed.{IsNew, IsSignatureOf, StoodEarlier}
use Rattle.auditing.specs.Fits.{Fits}
use Rattle.auditing.specs.declared.entry.Entry as audited
use Rattle.auditing.proofs.Allowing.{extended}
use Rattle.auditing.proofs.Fitting.{may_follow_if_fits}
use Rattle.claims.specs.declared.deps.Dep.{Dep}
use Rattle.listing.specs.Tree.{Tree}
use Rattle.package_record.specs.Build.{paths_of}
use Rattle.package_record.specs.Content.{Content}
use Rattle.protocol.specs.State.{Value}
use Rattle.engine.specs.Division.{Division, IsDivision}
use Rattle.world.specs.Headline.{HasSignature, entry_of}
use Rattle.one_list.specs.Matches.{packages_of}
use Rattle.one_list.specs.Needs.{may_build}
use Rattle.one_list.proofs.builds.ListedBuilds.{record_fits, stands_listed}

-- ---- lists

-- a relation between each element and each later one
first_of_pairs : {X : Type 0} (R : X → X → Type 0) (x : X) (xs : List X) → AllPairs R (x ∷ xs)
    → (y : X) → Contains xs y → R x y
first_of_pairs R x xs pairs y h =
    subst (R x) h.2 (pairs 0 (suc h.0) y (omega arith) (let lt = h.1 in omega (arith, lt)))

rest_of_pairs : {X : Type 0} (R : X → X → Type 0) (x : X) (xs : List X) → AllPairs R (x ∷ xs)
    → AllPairs R xs
rest_of_pairs R x xs pairs i j d lt within =
    pairs (suc i) (suc j) d (omega (arith, lt)) (omega (arith, within))

image : {X Y : Type 0} (f : X → Y) (xs : List X) (x : X) → Contains xs x → Contains (map f xs) (f x)
image f [] x (k, within, e) = absurd (omega arith)
image f (y ∷ ys) x (zero, within, e) = (zero, omega arith, ap f e)
image f (y ∷ ys) x (suc k, within, e) = let r =
    image f ys x (k, omega (arith, within), e) in (suc r.0, omega (arith, r.1), r.2)

-- elements before this one have different paths
others_before : (done : List Content) (r : Content) (rest : List Content)
    → AllPairs ◌≢◌ (paths_of (done ++ r ∷ rest)) → All (λ c. c.path ≢ r.path) done
others_before [] r rest one k d lt = absurd (omega (arith, lt))
others_before (c ∷ cs) r rest one zero d lt =
    first_of_pairs ◌≢◌ c.path (paths_of (cs ++ r ∷ rest)) one r.path
    (image (λ (c : Content). c.path) (cs ++ r ∷ rest) r
    (Contains-append_right cs (r ∷ rest) r (zero, omega arith, refl)))
others_before (c ∷ cs) r rest one (suc k) d lt =
    others_before cs r rest (rest_of_pairs ◌≢◌ c.path (paths_of (cs ++ r ∷ rest)) one) k d
    (omega (arith, lt))

-- the paths of the first part are distinct
first_part : (done rest : List Content) → AllPairs ◌≢◌ (paths_of (done ++ rest))
    → AllPairs ◌≢◌ (paths_of done)
first_part [] rest one i j d lt within = absurd (omega (arith, within))
first_part (c ∷ cs) rest one zero zero d lt within = absurd (omega (arith, lt))
first_part (c ∷ cs) rest one zero (suc j) d lt within =
    first_of_pairs ◌≢◌ c.path (paths_of (cs ++ rest)) one (get_or (paths_of cs) j d)
    (there cs rest j d (omega (arith, within)))
  where
    there : (cs rest : List Content) (j : ℕ) (d : Text) → j < length (paths_of cs)
        → Contains (paths_of (cs ++ rest)) (get_or (paths_of cs) j d)
    there [] rest j d lt = absurd (omega (arith, lt))
    there (x ∷ xs) rest zero d lt = (zero, omega arith, refl)
    there (x ∷ xs) rest (suc j) d lt = let r =
        there xs rest j d (omega (arith, lt)) in (suc r.0, omega (arith, r.1), r.2)
first_part (c ∷ cs) rest one (suc i) zero d lt within = absurd (omega (arith, lt))
first_part (c ∷ cs) rest one (suc i) (suc j) d lt within =
    first_part cs rest (rest_of_pairs ◌≢◌ c.path (paths_of (cs ++ rest)) one) i j d
    (omega (arith, lt)) (omega (arith, within))

-- ---- entries one by one

-- a signature in the list is that of an entry
signed_entry : (done : List Content) (d : Dep) → HasSignature done d
    → Any (IsSignatureOf d) (map entry_of done)
signed_entry done d (c, there, same) =
    let i = image entry_of done c there in (
      i.0,
      entry_of c,
      i.1,
      i.2,
      record {
        path = ap (λ (d : Dep). d.path) same;
        name = ap (λ (d : Dep). d.name) same;
        digest =
            ap (λ (d : Dep). d.digest) same;
      },
    )

more_signed : (done : List Content) (r : Content) (d : Dep) → HasSignature done d
    → HasSignature (done ++ r ∷ []) d
more_signed done r d (c, there, same) = (c, Contains-append_left done (r ∷ []) c there, same)

-- Whether the package fits the tree and depends only on these packages.
abbrev MayCome : Tree → List Content → Content → Type 0
MayCome tree done r = Fits tree r.path r.name r.built r.run × All (HasSignature done) r.built

extend : (tree : Tree) (done rest : List Content) → audit.IsAllowed tree (map entry_of done)
    → AllPairs ◌≢◌ (paths_of (done ++ rest))
    → ((r : Content) → Contains rest r → MayCome tree done r)
    → audit.IsAllowed tree (map entry_of (done ++ rest))
extend tree done [] ok one each =
    subst (λ l. audit.IsAllowed tree (map entry_of l)) (sym (append-nil done)) ok
extend tree done (r ∷ rs) ok one each =
    let mine = each r (zero, omega arith, refl) in
    let new : IsNew (map entry_of done) r.path = All-map (λ (e : audited.Entry). e.path ≢ r.path)
    entry_of done (others_before done r rs one) in
    let stood : StoodEarlier (map entry_of done) r.built =
    All-weaker (HasSignature done) (λ d. Any (IsSignatureOf d) (map entry_of done))
    (signed_entry done) r.built mine.1 in
    let follows = may_follow_if_fits tree (map entry_of done) (entry_of r) r.run mine.0 new stood in
    let more : audit.IsAllowed tree (map entry_of (done ++ r ∷ [])) =
    subst (audit.IsAllowed tree) (sym (map-append entry_of done (r ∷ [])))
    (extended tree (map entry_of done) (entry_of r) ok follows) in
    subst (λ l. audit.IsAllowed tree (map entry_of l)) (append_assoc done (r ∷ []) rs)
    (extend tree (done ++ r ∷ []) rs more (subst (λ l. AllPairs ◌≢◌ (paths_of l))
    (sym (append_assoc done (r ∷ []) rs)) one)
    (λ q h. let its = each q (suc h.0, omega (arith, h.1), h.2) in (
      its.0,
      All-weaker (HasSignature done) (HasSignature (done ++ r ∷ [])) (more_signed done r)
          q.built its.1,
    )))

-- So an audit accepts a list of allowed entries.
pub audit_says_yes : (division : Division) → IsDivision division → (list : List (Entry Value))
    → IsAllowed (may_build division) list
    → All (λ n. n.path < length division.units) list → AllPairs ◌≢◌ (paths_of (packages_of list))
    → audit.IsAllowed division.tree (map entry_of (packages_of list))
audit_says_yes division is [] allowed units one =
    λ k entry e. absurd (let no : None ≡ Some entry = e in cc)
audit_says_yes division is (n ∷ ns) allowed units one =
    extend division.tree (packages_of ns) n.value
    (audit_says_yes division is ns allowed.2 (λ k d lt. units (suc k) d (omega (arith, lt)))
    (first_part (packages_of ns) n.value one)) one
    (λ r h. (
      record_fits division is (lookup ns) n.path n.value (units 0 n (omega arith)) allowed.1 r h,
      stands_listed division ns n.path n.value allowed.1 r h,
    ))
