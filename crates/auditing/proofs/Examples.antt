-- Verdicts on lists of packages of a small tree: the first package is built on the second, which
-- runs on the third; the last one is marked as ignored.
use Rattle.std.proofs.Common.{◌≡◌, ◌≢◌, ◌<◌, ◌≤◌, ◌∙◌, ℕ, zero, suc, codes, length, refl, sym, ap, subst, replicate, List, [], ◌∷◌, true, false, arith}
use Rattle.std.specs.Prelude.{AllPairs, Any, Contains}
use Rattle.std.specs.Str.{bytes_eq}
use Rattle.std.proofs.lemmas.Bool.{false≢true, true≢false}
use Rattle.std.proofs.lemmas.Option.{none-some}
use Rattle.engine.specs.Ignored.{AreTheIgnored, HoldsTheMarked, IsIgnored}
use Rattle.engine.specs.Units.{IsUnitOf, Unit, unit_with}
use Rattle.faults.specs.Bytes.{Text}
use Rattle.claims.specs.declared.deps.Dep.{Dep}
use Rattle.listing.specs.Tree.{Tree, build_at, is_marked_at, run_at}
use Rattle.auditing.specs.Allowed.{AreItsDependencies, IsAllowed, IsNew, IsSignatureOf, MayFollow, StoodEarlier}
use Rattle.auditing.specs.Fits.{Fits}
use Rattle.auditing.specs.Verdicts.{IsVerdict}
use Rattle.auditing.specs.declared.entry.Entry.{Entry}
use Rattle.auditing.specs.declared.verdict.Reason.TheVariants.{Unlisted, Ignored, OtherName, PathTwice, OtherDependencies, DependencyNotEarlier}
use Rattle.auditing.specs.declared.verdict.Verdict.TheVariants.{Yes, No}
use Rattle.auditing.proofs.Allowing.{extended}
use Rattle.auditing.proofs.OfUnit.{these_from_are}

abbrev tree : Tree
tree =
    record { path = codes "a/p"; group = codes "a/p"; name = codes "p-1"; build = 1 ∷ []; run = []; is_marked = false }
    ∷ record { path = codes "a/q"; group = codes "a/q"; name = codes "q-1"; build = []; run = 2 ∷ []; is_marked = false }
    ∷ record { path = codes "a/r"; group = codes "a/r"; name = codes "r-1"; build = []; run = []; is_marked = false }
    ∷ record { path = codes "a/s"; group = codes "a/s"; name = codes "s-1"; build = []; run = []; is_marked = true }
    ∷ []

other_text : (s t : Text) → bytes_eq s t ≡ false → bytes_eq t t ≡ true → s ≢ t
other_text s t e same h = true≢false (sym same ∙ sym (ap (λ u. bytes_eq u t) h) ∙ e)

-- ---- which are ignored

by_build : (p d : ℕ) → p < length tree → Contains (build_at tree p) d → is_marked_at tree d ≡ true → is_marked_at tree p ≡ true
by_build zero d l (zero, within, here) h = absurd (false≢true (subst (λ n. is_marked_at tree n ≡ true) (sym here) h))
by_build zero d l (suc k, within, here) h = absurd (omega arith)
by_build (suc zero) d l (k, within, here) h = absurd (omega arith)
by_build (suc (suc zero)) d l (k, within, here) h = absurd (omega arith)
by_build (suc (suc (suc zero))) d l (k, within, here) h = absurd (omega arith)
by_build (suc (suc (suc (suc p)))) d l member h = absurd (omega arith)

by_run : (p d : ℕ) → p < length tree → Contains (run_at tree p) d → is_marked_at tree d ≡ true → is_marked_at tree p ≡ true
by_run zero d l (k, within, here) h = absurd (omega arith)
by_run (suc zero) d l (zero, within, here) h = absurd (false≢true (subst (λ n. is_marked_at tree n ≡ true) (sym here) h))
by_run (suc zero) d l (suc k, within, here) h = absurd (omega arith)
by_run (suc (suc zero)) d l (k, within, here) h = absurd (omega arith)
by_run (suc (suc (suc zero))) d l (k, within, here) h = absurd (omega arith)
by_run (suc (suc (suc (suc p)))) d l member h = absurd (omega arith)

free : (p : ℕ) → is_marked_at tree p ≡ false → ¬ IsIgnored tree p
free p e ignored =
    let holds : HoldsTheMarked tree (is_marked_at tree) = record { marked = λ q l h. h; build = by_build; run = by_run } in
    true≢false (sym (ignored (is_marked_at tree) holds) ∙ e)

left_out : IsIgnored tree 3
left_out S holds = holds.marked 3 (omega arith) refl

marked_alone : (p : ℕ) → is_marked_at tree p ≡ true → IsIgnored tree p
marked_alone zero e = absurd (false≢true e)
marked_alone (suc zero) e = absurd (false≢true e)
marked_alone (suc (suc zero)) e = absurd (false≢true e)
marked_alone (suc (suc (suc zero))) e = left_out
marked_alone (suc (suc (suc (suc p)))) e = absurd (false≢true e)

are_marked : AreTheIgnored tree (is_marked_at tree)
are_marked p = (marked_alone p, λ ignored. ignored (is_marked_at tree) (record { marked = λ q l h. h; build = by_build; run = by_run }))

-- ---- their units

abbrev unit_of : ℕ → Unit
unit_of p = unit_with tree (is_marked_at tree) p

is_unit : (p : ℕ) → p < length tree → is_marked_at tree p ≡ false → IsUnitOf tree p (unit_of p)
is_unit p l e = record { ignored = is_marked_at tree; are_ignored = are_marked; listed = l; not_ignored = e; is = refl }

p_unit : IsUnitOf tree 0 (unit_of 0)
p_unit = is_unit 0 (omega arith) refl

q_unit : IsUnitOf tree 1 (unit_of 1)
q_unit = is_unit 1 (omega arith) refl

-- ---- a package of the tree

q_fits : Fits tree (codes "a/q") (codes "q-1") [] (codes "a/r" ∷ [])
q_fits = record {
  position = 1;
  listed = refl;
  not_ignored = free 1 refl;
  name_is = refl;
  unit = unit_of 1;
  of_unit = q_unit;
  built_on = refl;
  runs_on = refl;
}

-- ---- entries

abbrev q_entry : Entry
q_entry = record { path = codes "a/q"; name = codes "q-1"; digest = replicate 32 1; built = [] }

abbrev on_q : ℕ → Dep
on_q byte = record { path = codes "a/q"; name = codes "q-1"; digest = replicate 32 byte }

abbrev p_entry : List Dep → Entry
p_entry built = record { path = codes "a/p"; name = codes "p-1"; digest = replicate 32 2; built = built }

abbrev s_entry : Entry
s_entry = record { path = codes "a/s"; name = codes "s-2"; digest = replicate 32 3; built = [] }

abbrev other_name : Entry
other_name = record { path = codes "a/q"; name = codes "q-1.0"; digest = replicate 32 1; built = [] }

abbrev unlisted : Entry
unlisted = record { path = codes "a/x"; name = codes "x-1"; digest = replicate 32 1; built = [] }

nothing_twice : (ts : List Text) → length ts ≤ 1 → AllPairs ◌≢◌ ts
nothing_twice ts few i j d l m e = omega arith

built_on_q : (byte : ℕ) → AreItsDependencies tree 0 (on_q byte ∷ [])
built_on_q byte = record {
  unit = unit_of 0;
  of_unit = p_unit;
  are = record { once = nothing_twice (codes "a/q" ∷ []) (omega arith); exactly = λ path. (λ h. h, λ h. h) };
}

new_after_q : IsNew (q_entry ∷ []) (codes "a/p")
new_after_q zero d l = other_text (codes "a/q") (codes "a/p") refl refl
new_after_q (suc k) d l = absurd (omega arith)

q_stood : StoodEarlier (q_entry ∷ []) (on_q 1 ∷ [])
q_stood zero d l = (0, q_entry, omega arith, refl, record { path = refl; name = refl; digest = refl })
q_stood (suc k) d l = absurd (omega arith)

q_may_follow : MayFollow tree [] q_entry
q_may_follow = record {
  position = 1;
  listed = refl;
  not_ignored = free 1 refl;
  name = refl;
  new = λ k d l. absurd (omega arith);
  dependencies = record {
    unit = unit_of 1;
    of_unit = q_unit;
    are = record { once = nothing_twice [] (omega arith); exactly = λ path. (λ h. h, λ h. h) };
  };
  stood = λ k d l. absurd (omega arith);
}

p_may_follow : MayFollow tree (q_entry ∷ []) (p_entry (on_q 1 ∷ []))
p_may_follow = record {
  position = 0;
  listed = refl;
  not_ignored = free 0 refl;
  name = refl;
  new = new_after_q;
  dependencies = built_on_q 1;
  stood = q_stood;
}

none_allowed : IsAllowed tree []
none_allowed k e h = absurd (none-some e h)

q_allowed : IsAllowed tree (q_entry ∷ [])
q_allowed = extended tree [] q_entry none_allowed q_may_follow

-- ---- verdicts

example_empty : IsVerdict tree [] Yes
example_empty = none_allowed

example_yes : IsVerdict tree (q_entry ∷ p_entry (on_q 1 ∷ []) ∷ []) Yes
example_yes = extended tree (q_entry ∷ []) (p_entry (on_q 1 ∷ [])) q_allowed p_may_follow

example_unlisted : IsVerdict tree (unlisted ∷ []) (No 1 Unlisted)
example_unlisted = (omega arith, record { entry = unlisted; stands = refl; before = none_allowed; reason_is = refl })

-- its name differs, too
example_ignored : IsVerdict tree (s_entry ∷ []) (No 1 Ignored)
example_ignored = (omega arith, record { entry = s_entry; stands = refl; before = none_allowed; reason_is = (3, refl, left_out) })

example_other_name : IsVerdict tree (q_entry ∷ other_name ∷ []) (No 2 OtherName)
example_other_name = (
  omega arith,
  record {
    entry = other_name;
    stands = refl;
    before = q_allowed;
    reason_is = (1, refl, (free 1 refl, other_text (codes "q-1.0") (codes "q-1") refl refl));
  },
)

example_twice : IsVerdict tree (q_entry ∷ q_entry ∷ p_entry (on_q 1 ∷ []) ∷ []) (No 2 PathTwice)
example_twice = (
  omega arith,
  record {
    entry = q_entry;
    stands = refl;
    before = q_allowed;
    reason_is = (1, refl, (free 1 refl, refl, λ new. new 0 q_entry (omega arith) refl));
  },
)

example_without_dependencies : IsVerdict tree (q_entry ∷ p_entry [] ∷ []) (No 2 OtherDependencies)
example_without_dependencies = (
  omega arith,
  record {
    entry = p_entry [];
    stands = refl;
    before = q_allowed;
    reason_is = (0, refl, (free 0 refl, refl, new_after_q, λ are. let these = these_from_are tree 0 (unit_of 0) [] p_unit are in let member = (these.exactly (codes "a/q")).1 (0, omega arith, refl) in omega (arith, member.1)));
  },
)

example_dependency_twice : IsVerdict tree (q_entry ∷ p_entry (on_q 1 ∷ on_q 1 ∷ []) ∷ []) (No 2 OtherDependencies)
example_dependency_twice = (
  omega arith,
  record {
    entry = p_entry (on_q 1 ∷ on_q 1 ∷ []);
    stands = refl;
    before = q_allowed;
    reason_is = (0, refl, (free 0 refl, refl, new_after_q, λ are. (these_from_are tree 0 (unit_of 0) (on_q 1 ∷ on_q 1 ∷ []) p_unit are).once 0 1 [] (omega arith) (omega arith) refl));
  },
)

-- in the other order the dependency is not earlier
example_not_earlier : IsVerdict tree (p_entry (on_q 1 ∷ []) ∷ q_entry ∷ []) (No 1 DependencyNotEarlier)
example_not_earlier = (
  omega arith,
  record {
    entry = p_entry (on_q 1 ∷ []);
    stands = refl;
    before = none_allowed;
    reason_is = (
      0,
      refl,
      (free 0 refl, refl, λ k d l. absurd (omega arith), built_on_q 1, λ all. let earlier = all 0 (on_q 1) (omega arith) in omega (arith, earlier.2)),
    );
  },
)

-- nor is one with another digest
another_digest : ¬ Any (IsSignatureOf (on_q 4)) (q_entry ∷ [])
another_digest (zero, e, l, here, signature) =
    other_text (replicate 32 1) (replicate 32 4) refl refl (ap (λ (x : Entry). x.digest) here ∙ signature.digest)
another_digest (suc k, e, l, here, signature) = omega arith

example_other_digest : IsVerdict tree (q_entry ∷ p_entry (on_q 4 ∷ []) ∷ []) (No 2 DependencyNotEarlier)
example_other_digest = (
  omega arith,
  record {
    entry = p_entry (on_q 4 ∷ []);
    stands = refl;
    before = q_allowed;
    reason_is = (0, refl, (free 0 refl, refl, new_after_q, built_on_q 4, λ all. another_digest (all 0 (on_q 4) (omega arith))));
  },
)
