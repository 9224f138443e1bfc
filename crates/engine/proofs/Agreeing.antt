-- The effects of holding one more package.
use Rattle.std.proofs.Common.{◌≡◌, ◌≢◌, ◌<◌, ◌⊎◌, ℕ, Bool, true, false, List, All, Contains, Some, get_or, length, set, refl, sym, ap, ◌∙◌, subst, inl, inr, arith}
use Rattle.std.proofs.lemmas.Bool.{both_ways, cases_Bool, cases_eq}
use Rattle.std.proofs.lemmas.List.{get_or-set_other, get_or-set_same, length-map, length-set}
use Rattle.std.specs.FinSet as finset
use Rattle.listing.specs.Tree.{run_at}
use Rattle.engine.specs.Division.{Division, number_of}
use Rattle.engine.specs.State.{State}
use Rattle.engine.specs.declared.Letter.{Letter}
use Rattle.engine.specs.declared.Letter.TheVariants.{T, Q, B, I, Ignored}
use Rattle.graph.specs.Walked.{Walked}
use Rattle.engine.specs.shared.Agreed.{held_marks}
use Rattle.engine.specs.shared.Keeping.{AreKept, holds}
use Rattle.engine.specs.inside.Searching.{IsSettled}
use Rattle.engine.specs.inside.Queueing.{AreQueueing, FitsUnit, needs_of}
use Rattle.engine.specs.shared.Shown.{is_held, is_installed, letter_at}
use Rattle.graph.specs.Marks.{has_mark}
use Rattle.engine.proofs.Beginning.{not_held_installed}
use Rattle.engine.proofs.Marked.{marked_set-like, marked_set-more, marked_set-same}
use Rattle.graph.proofs.Marked.{has_mark-other, has_mark-same}
use Rattle.engine.proofs.Reading.{held_mark, state_of}
use Rattle.engine.proofs.Settled.{are_lacks_now, as_before, installed_lacks, no_more, waited_same}
use Rattle.engine.proofs.Waiting.{waited_for-same}

-- a package that is not ignored has a unit
numbered : (d : Division) (waits : List ℕ) (p : ℕ) (l : Letter) → l ≢ Ignored → FitsUnit d waits p l → (u : ℕ) × (number_of d p ≡ Some u)
numbered d waits p T other (u, is, some) = (u, is)
numbered d waits p Q other (u, is, none) = (u, is)
numbered d waits p B other fits = fits
numbered d waits p I other fits = fits
numbered d waits p Ignored other fits = absurd (other refl)

-- ---- the set of agreed packages

-- a package that is held is agreed
pub agreed_again : (d : Division) (letters : List Letter) (p : ℕ) (s : State) → state_of d.tree letters ≡ s → holds letters p ≡ true
    → s ≡ record { tree = s.tree; agreed = finset.insert s.agreed p }
agreed_again d letters p s is held = subst (λ (x : State). x ≡ record { tree = x.tree; agreed = finset.insert x.agreed p }) is
    (λ i. record { tree = d.tree; agreed = sym (marked_set-same (held_marks letters) p (held_mark letters p ∙ held)) i })

module _ (d : Division) (letters now : List Letter) (p : ℕ) (s : State) (is : state_of d.tree letters ≡ s) (within : p < length letters)
    (held : (q : ℕ) → holds now q ≡ holds (set letters p B) q) where
  marks_same : (q : ℕ) → has_mark (held_marks now) q ≡ has_mark (set (held_marks letters) p true) q
  marks_same q = held_mark now q ∙ held q ∙ elim (cases_eq q p) [
    | inl same ↦ ap (holds (set letters p B)) same ∙ ap is_held (get_or-set_same letters p B Ignored within)
        ∙ sym (ap (has_mark (set (held_marks letters) p true)) same ∙ has_mark-same (held_marks letters) p true (omega (arith, within, length-map letters is_held)))
    | inr other ↦ ap is_held (get_or-set_other letters p q B Ignored other) ∙ sym (has_mark-other (held_marks letters) p q true other ∙ held_mark letters q)
  ]

  pub agreed_more : state_of d.tree now ≡ record { tree = s.tree; agreed = finset.insert s.agreed p }
  agreed_more = subst (λ (x : State). state_of d.tree now ≡ record { tree = x.tree; agreed = finset.insert x.agreed p }) is
      (λ i. record {
        tree = d.tree;
        agreed = (marked_set-like (held_marks now) (set (held_marks letters) p true) marks_same
            ∙ marked_set-more (held_marks letters) p (omega (arith, within, length-map letters is_held))) i;
      })

-- ---- the invariant

module _ {d : Division} {letters : List Letter} {lacks waits : List ℕ} {runs needs : List (List ℕ)} {search : Walked} (kept : AreKept d letters lacks waits runs needs search)
    (p : ℕ) (within : p < length d.tree) (not_held : holds letters p ≡ false) where
  inside : p < length letters
  inside = omega (arith, within, kept.queueing.are_fitting.each_letter)

  -- the units wait for the same number of packages as before
  pub AreQueueing-built : letter_at letters p ≢ Ignored → AreQueueing d (set letters p B) waits
  AreQueueing-built not_ignored = record {
    are_fitting = record {
      division = kept.queueing.are_fitting.division;
      each_letter = length-set letters p B ∙ kept.queueing.are_fitting.each_letter;
      each_unit = kept.queueing.are_fitting.each_unit;
      fit = λ q listed. elim (cases_eq q p) [
        | inl same ↦
            let b : FitsUnit d waits p B = numbered d waits p (letter_at letters p) not_ignored (kept.queueing.are_fitting.fit p within) in
            let here : letter_at (set letters p B) p ≡ B = get_or-set_same letters p B Ignored inside in
            subst (λ (x : ℕ). FitsUnit d waits x (letter_at (set letters p B) x)) (sym same) (subst (FitsUnit d waits p) (sym here) b)
        | inr other ↦ subst (FitsUnit d waits q) (sym (get_or-set_other letters p q B Ignored other)) (kept.queueing.are_fitting.fit q listed)
      ];
    };
    waited = λ u listed. kept.queueing.waited u listed ∙ sym (waited_for-same letters (set letters p B) (needs_of d u) (λ q. elim (cases_eq q p) [
      | inl same ↦ ap (λ x. is_installed (letter_at (set letters p B) x)) same ∙ ap is_installed (get_or-set_same letters p B Ignored inside)
          ∙ sym (ap (λ x. is_installed (letter_at letters x)) same ∙ not_held_installed (letter_at letters p) not_held)
      | inr other ↦ ap is_installed (get_or-set_other letters p q B Ignored other)
    ]));
  }

  -- the packages that become installable with this one are known, and get the letter I
  pub AreKept-agreed : (now : List Letter) (less fewer found : List ℕ) (after : Walked)
      → IsSettled (set letters p B) lacks less runs p found → length less ≡ length lacks
      → ((q : ℕ) → is_held (letter_at now q) ≡ is_held (letter_at (set letters p B) q))
      → AreQueueing d now fewer
      → ((q : ℕ) → letter_at now q ≡ B → letter_at (set letters p B) q ≡ B)
      → ((q : ℕ) → letter_at now q ≡ I → (letter_at (set letters p B) q ≡ I) ⊎ (Contains found q × (get_or less q 0 ≡ 0)))
      → All (λ q. letter_at now q ≡ B → 0 < get_or less q 0) found
      → after.len ≡ length d.tree → AreKept d now less fewer runs needs after
  AreKept-agreed now less fewer found after settled each held queueing built installed all over_all = record {
    queueing = queueing;
    each = each ∙ kept.each;
    are_lacks = are_lacks_now kept p within not_held settled now held built installed all;
    few = kept.few;
    installed = installed_lacks kept p within not_held settled now held built installed all;
    built = λ q is i. no_more kept p within not_held settled now held built installed all q i is;
    runs_turned = kept.runs_turned;
    needs_turned = kept.needs_turned;
    over_all = over_all;
  }

  -- a package that needs one that is not held is not installable, and no other becomes so
  pub AreKept-waiting : letter_at letters p ≢ Ignored → (e : ℕ) → Contains (run_at d.tree p) e → is_held (letter_at (set letters p B) e) ≡ false
      → AreKept d (set letters p B) lacks waits runs needs search
  AreKept-waiting not_ignored e needed lacking = record {
    queueing = AreQueueing-built not_ignored;
    each = kept.each;
    are_lacks = λ q listed. kept.are_lacks q listed ∙ sym (waited_same kept p within not_held (run_at d.tree q));
    few = kept.few;
    installed = λ q is. kept.installed q (sym (as_before kept p within not_held q (λ same.
        let f : B ≡ I = sym (ap (letter_at (set letters p B)) same ∙ get_or-set_same letters p B Ignored inside) ∙ is in cc)) ∙ is);
    built = λ q is i. elim (cases_Bool (i.among p)) [
      | inl member ↦ both_ways (is_held (letter_at (set letters p B) e)) lacking (i.all_held e (i.closed p e member needed))
      | inr out ↦ kept.built q (sym (as_before kept p within not_held q (other i.among out q i.member)) ∙ is) (record {
        among = i.among;
        member = i.member;
        all_held = λ x m. sym (ap is_held (as_before kept p within not_held x (other i.among out x m))) ∙ i.all_held x m;
        closed = i.closed;
      })
    ];
    runs_turned = kept.runs_turned;
    needs_turned = kept.needs_turned;
    over_all = kept.over_all;
  }
    where
      other : (S : ℕ → Bool) → S p ≡ false → (x : ℕ) → S x ≡ true → x ≢ p
      other S out x member same = both_ways (S p) out (ap S (sym same) ∙ member)
