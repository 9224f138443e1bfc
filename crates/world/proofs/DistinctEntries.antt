-- The list has at most one package for each path, and no datagram is listed twice among those sent.
use Rattle.std.proofs.Common.{◌≡◌, ◌≢◌, ℕ, zero, suc, true, false, List, [], ◌∷◌, ◌++◌, refl, sym, ap, subst, ◌∙◌, arith, inl, inr, true≢false}
use Rattle.std.specs.Prelude.{All, AllPairs, Contains}
use Rattle.std.specs.List.{list_any}
use Rattle.std.proofs.lemmas.Bool.{cond_both, or_left, or_parts, or_right}
use Rattle.std.proofs.lemmas.Cmp.{nat_list_cmp_total}
use Rattle.std.proofs.lemmas.List.{map-append}
use Rattle.std.proofs.lemmas.List.Elements.{All-append, All-cons, All-nil}
use Rattle.std.proofs.lemmas.List.Kept.{AllPairs-cons}
use Rattle.std.specs.Str.{bytes_eq}
use Rattle.auditing.proofs.Sets.{rises}
use Rattle.faults.specs.Bytes.{Text}
use Rattle.faults.specs.Pieces.{text_cmp}
use Rattle.faults.proofs.Ascending.{differ}
use Rattle.protocol.specs.Events.{Event}
use Rattle.package_record.specs.Build.{paths_of}
use Rattle.package_record.specs.Content.{Content}
use Rattle.protocol.specs.State.{Value}
use Rattle.engine.proofs.Places.{equal_bytes}
use Rattle.engine.specs.Division.{Division}
use Rattle.node.specs.Messages.{IsBuildOf}
use Rattle.world.specs.Happening.{Happens, Leads}
use Rattle.world.specs.Headline.{AtEachMoment, HasOneAPath}
use Rattle.world.specs.Lists.{IsListAfter, has_path}
use Rattle.world.specs.Sent.{WasProposed}
use Rattle.world.specs.World.{World, start}
use Rattle.world.proofs.Growth.{by_kind, each_moment, kept_on}
use Rattle.world.proofs.SentAdditions.{sends_once}

-- ---- lists of distinct elements

pairs_append : {X : Type 0} (R : X → X → Type 0) (xs ys : List X) → AllPairs R xs → AllPairs R ys
    → ((x : X) → Contains xs x → All (R x) ys) → AllPairs R (xs ++ ys)
pairs_append R [] ys first then across = then
pairs_append {X} R (x ∷ xs) ys first then across =
    AllPairs-cons R x (xs ++ ys)
    (All-append (R x) xs ys (λ k d within. first 0 (suc k) d (omega arith) (omega (arith, within)))
    (across x (0, omega arith, refl)))
    (pairs_append R xs ys (λ i j d lt within. first (suc i) (suc j) d (omega (arith, lt))
    (omega (arith, within))) then (λ y m. across y (suc m.0, omega (arith, m.1), m.2)))

-- the paths of a build are distinct
pub build_paths_differ : (name : Text) (build : Value) → IsBuildOf name build
    → AllPairs ◌≢◌ (paths_of build)
build_paths_differ name build is = differ text_cmp nat_list_cmp_total (paths_of build)
    (rises (paths_of build) is.build_is.ascending)

-- what was proposed is a build
pub proposed_is_build : (w : World) (sent : List Text) (name : Text) (c : _) (build : Value)
    → WasProposed w sent name c build → IsBuildOf name build
proposed_is_build w sent name c build p = p.1.is_message.body.1

-- ---- one package for each path

-- a path of the list is found there
pub has_path_of : (list : List Content) (path : Text) → Contains (paths_of list) path
    → has_path list path ≡ true
has_path_of [] path (k, within, e) = absurd (omega arith)
has_path_of (r ∷ rs) path (zero, within, e) =
    or_left (bytes_eq r.path path) (has_path rs path) (equal_bytes r.path path e)
has_path_of (r ∷ rs) path (suc k, within, e) = or_right (bytes_eq r.path path) (has_path rs path)
    (has_path_of rs path (k, omega (arith, within), e))

-- no path in the list is that of an added package
paths_apart : (list : List Content) (build : Value)
    → list_any (λ r. has_path list r.path) build ≡ false
    → (path : Text) → Contains (paths_of list) path → All (λ other. path ≢ other) (paths_of build)
paths_apart list [] none path m = All-nil (λ other. path ≢ other)
paths_apart list (r ∷ rs) none path m =
    let parts = or_parts (has_path list r.path) (list_any (λ x. has_path list x.path) rs) none in
    All-cons (λ other. path ≢ other) r.path (paths_of rs)
    (λ same. true≢false (sym (has_path_of list r.path (subst (Contains (paths_of list)) same m))
    ∙ parts.0))
    (paths_apart list rs parts.1 path m)

-- so each path has at most one package
list_one : (w : World) (after : List Text) (list : List Content) → IsListAfter w after list
    → HasOneAPath w
    → AllPairs ◌≢◌ (paths_of list)
list_one w after list (inr (none, e)) one = subst (λ l. AllPairs ◌≢◌ (paths_of l)) (sym e) one
list_one w after list (inl (build, decided, e)) one = subst (λ l. AllPairs ◌≢◌ (paths_of l)) (sym e)
    (cond_both (list_any (λ r. has_path w.agreed r.path) build) w.agreed (w.agreed ++ build)
    (λ l. AllPairs ◌≢◌ (paths_of l))
    (λ t. one)
    (λ f. subst (AllPairs ◌≢◌) (sym (map-append (λ r. r.path) w.agreed build))
    (pairs_append ◌≢◌ (paths_of w.agreed) (paths_of build) one
    (build_paths_differ decided.name build (proposed_is_build w after decided.name decided.claim
    build decided.proposed))
    (paths_apart w.agreed build f))))

one_kept : (w v : World) (e : Event) → Happens w e v → HasOneAPath w → HasOneAPath v
one_kept = by_kind (λ w v. HasOneAPath w → HasOneAPath v)
    (λ w v e s one. list_one w _ v.agreed s.list one)
    (λ w v e l s one. subst (λ l. AllPairs ◌≢◌ (paths_of l)) (sym (ap (λ u. u.agreed) s.leaves))
    one)
    (λ w v n s one. subst (λ l. AllPairs ◌≢◌ (paths_of l)) (sym (ap (λ u. u.agreed) s.leaves)) one)
    (λ w v n s one. subst (λ l. AllPairs ◌≢◌ (paths_of l)) (sym (ap (λ u. u.agreed) s.leaves)) one)

-- The list of a reachable world has at most one package for each path, and so it has at every
-- point.
pub one_there : (division : Division) (weights : List ℕ) (events : List Event) (w : World)
    → Leads (start division weights) events w → HasOneAPath w
one_there division weights events w led =
    kept_on HasOneAPath one_kept (start division weights) w events led
    (λ i j d lt within. absurd (omega arith))

pub one_a_path : (division : Division) (weights : List ℕ) (events : List Event) (last : World)
    → Leads (start division weights) events last
    → AtEachMoment division weights events last (λ early w. HasOneAPath w)
one_a_path division weights =
    each_moment division weights (λ early w. HasOneAPath w) (one_there division weights)

-- ---- datagrams

sent_once_kept : (w v : World) (e : Event) → Happens w e v → AllPairs ◌≢◌ w.sent
    → AllPairs ◌≢◌ v.sent
sent_once_kept = by_kind (λ w v. AllPairs ◌≢◌ w.sent → AllPairs ◌≢◌ v.sent)
    (λ w v e s once. subst (AllPairs ◌≢◌) (sym (ap (λ u. u.sent) s.leaves))
    (sends_once w.sent s.taken.answer.sends once))
    (λ w v e l s once. subst (AllPairs ◌≢◌) (sym (ap (λ u. u.sent) s.leaves)) once)
    (λ w v n s once. subst (AllPairs ◌≢◌) (sym (ap (λ u. u.sent) s.leaves)) once)
    (λ w v n s once. subst (AllPairs ◌≢◌) (sym (ap (λ u. u.sent) s.leaves)) once)

-- No datagram is listed twice among those sent.
pub nothing_sent_twice : (division : Division) (weights : List ℕ) (events : List Event) (w : World)
    → Leads (start division weights) events w → AllPairs ◌≢◌ w.sent
nothing_sent_twice division weights events w led =
    kept_on (λ w. AllPairs ◌≢◌ w.sent) sent_once_kept (start division weights) w events led
    (λ i j d lt within. absurd (omega arith))
