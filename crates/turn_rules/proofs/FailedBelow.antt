-- The queued packages whose units haven't failed.
use Rattle.std.proofs.Common.{◌≡◌, ◌==◌, ◌||◌, ℕ, Bool, true, false, List, [], ◌∷◌, Option, None, Some, length, if◌then◌else◌, refl, sym, ap, subst, ◌∙◌, inl, inr, arith}
use Rattle.std.specs.Prelude.{◌++◌}
use Rattle.std.specs.List.{list_any}
use Rattle.std.specs.Str.{bytes_eq}
use Rattle.std.proofs.lemmas.Bool.{cases_Bool, true≢false}
use Rattle.std.proofs.lemmas.List.Folds.{list_any-append}
use Rattle.std.proofs.lemmas.List.Quantifiers.{position-Some}
use Rattle.claims.specs.Member.{Facts}
use Rattle.ballots.specs.declared.message.Note.{Note}
use Rattle.turn_rules.specs.Own.{Barred, IsFree, IsLeastFree, is_barred}
use Rattle.turn_rules.specs.Pending.{Pending, has_failed, kept_after, with_failed}
use Rattle.engine.specs.Division.{Division, no_unit, number_named, number_of}
use Rattle.engine.specs.State as engine
use Rattle.engine.specs.declared.Letter.TheVariants as letters
use Rattle.member.proofs.HeldUnits.{engine_stays}
use Rattle.member.specs.shared.Fields.{engine_with}
use Rattle.node.proofs.Finishing.{note_is}
use Rattle.node.proofs.ranges.Leaving.{facts_after}
use Rattle.node.specs.State.{IsNode, NodeState}
use Rattle.node.specs.Step.{Asked, Comes, Does, ReadyStep, after, note_in, taken_by}
use Rattle.protocol.specs.State.{OpenClaim, State, Value, engine_of, facts_then, noted_at}
use Rattle.protocol.specs.declared.input.Input.TheVariants as inputs
use Rattle.turn_rules.proofs.Owned.{NoneFreeBefore}
use Rattle.turn_rules.specs.Unfailed.{AllFailedBelow, notes_held}

-- ---- below a position

-- there is no position below 0
pub none_below : (s : State) (p : Pending) → AllFailedBelow s p 0
none_below s p k below free = absurd (omega (arith, below))

-- if `||` is false, so is its left side
left_false : (a b : Bool) → (a || b) ≡ false → a ≡ false
left_false true b e = e
left_false false b e = refl

-- `||` with false on the right side keeps false
still_false : (a : Bool) → a ≡ false → (a || false) ≡ false
still_false true e = e
still_false false e = refl

module _ (s : State) (p : Pending) where
  -- if more units are barred than the failed ones, no more are free
  pub none_free_before : (elsewhere : List ℕ) (from : ℕ) → AllFailedBelow s p from
      → NoneFreeBefore s (λ u. has_failed p u || list_any (λ v. v == u) elsewhere) from
  none_free_before elsewhere from below k lt (queued, free) =
      below k lt (queued, by (number_of s.division k) free)
    where
      by : (n : Option ℕ)
          → is_barred (λ u. has_failed p u || list_any (λ v. v == u) elsewhere) n ≡ false
          → is_barred (has_failed p) n ≡ false
      by None e = e
      by (Some u) e = left_false (has_failed p u) (list_any (λ v. v == u) elsewhere) e

  -- the failed units, and no others
  abbrev Failed : Barred
  Failed = λ u. has_failed p u || false

  free_so : (k : ℕ) → IsFree s Failed k → IsFree s (has_failed p) k
  free_so k (queued, free) = (queued, by (number_of s.division k) free)
    where
      by : (n : Option ℕ) → is_barred Failed n ≡ false → is_barred (has_failed p) n ≡ false
      by None e = e
      by (Some u) e = left_false (has_failed p u) false e

  so_free : (k : ℕ) → IsFree s (has_failed p) k → IsFree s Failed k
  so_free k (queued, free) = (queued, by (number_of s.division k) free)
    where
      by : (n : Option ℕ) → is_barred (has_failed p) n ≡ false → is_barred Failed n ≡ false
      by None e = e
      by (Some u) e = still_false (has_failed p u) e

  -- the least one whose unit hasn't failed
  pub left_at : (position : ℕ) → IsLeastFree s Failed (Some position)
      → IsFree s (has_failed p) position
  left_at position least = free_so position least.1

  pub failed_below : (position : ℕ) → IsLeastFree s Failed (Some position)
      → AllFailedBelow s p position
  failed_below position least k lt free = least.2 k lt (so_free k free)

  -- or there is none
  pub all_failed : IsLeastFree s Failed None → AllFailedBelow s p (length s.division.tree)
  all_failed none k lt free = none k lt (so_free k free)

-- ---- after a step

-- a unit that failed has failed still
failed_with : (p : Pending) (claim : Option OpenClaim) (u : ℕ) → has_failed p u ≡ true
    → has_failed (with_failed p claim) u ≡ true
failed_with p None u e = e
failed_with p (Some o) u e = by (has_failed p o.unit)
  where
    by : (b : Bool)
        → has_failed (if b then p else record p { failed = p.failed ++ o.unit ∷ [] }) u ≡ true
    by true = e
    by false = list_any-append (λ v. u == v) p.failed (o.unit ∷ [])
        ∙ ap (λ b. b || list_any (λ v. u == v) (o.unit ∷ [])) e

failed_then : (p : Pending) (k : ℕ) (s : State) (asked : Asked) (u : ℕ) → has_failed p u ≡ true
    → has_failed (kept_after p k s asked) u ≡ true
failed_then p k s (Does (inputs.Claim path host above)) u e = e
failed_then p k s (Does (inputs.Built path given)) u e = e
failed_then p k s (Does (inputs.Failed path)) u e = failed_with p s.claim u e
failed_then p k s (Does inputs.Nudge) u e = e
failed_then p k s (Does (inputs.Ask path)) u e = e
failed_then p k s (Does (inputs.Message m)) u e = e
failed_then p k s (Comes text) u e = e

-- so after the state between turns was updated, no more are free
pub kept_below : (s : State) (p : Pending) (k : ℕ) (m : State) (asked : Asked) (from : ℕ)
    → AllFailedBelow s p from → AllFailedBelow s (kept_after p k m asked) from
kept_below s p k m asked from below j lt (queued, free) =
    below j lt (queued, by (number_of s.division j) free)
  where
    by : (n : Option ℕ) → is_barred (has_failed (kept_after p k m asked)) n ≡ false
        → is_barred (has_failed p) n ≡ false
    by None e = e
    by (Some u) e = elim (cases_Bool (has_failed p u)) [
      | inl had ↦ absurd (true≢false (sym (failed_then p k m asked u had) ∙ e))
      | inr had_not ↦ had_not
    ]

-- a note that isn't of a held build leaves the builds that are held
engine_then : (d : Division) (facts : List (Facts Value)) (note : Option (Note Value))
    → length facts ≡ length d.units → notes_held note ≡ false
    → engine_with d (facts_then d facts note) ≡ engine_with d facts
engine_then d facts None each quiet = refl
engine_then d facts (Some n) each quiet = by (number_named d n.path) refl
  where
    by : (o : Option ℕ) → number_named d n.path ≡ o
        → engine_with d (noted_at o facts n) ≡ engine_with d facts
    by None e = refl
    by (Some u) e =
        let there = (position-Some (λ x. bytes_eq x.name n.path) d.units u no_unit e).0 in
        engine_stays d facts u n (omega (arith, there, each)) quiet

-- so no more are queued
pub taken_below : (n : NodeState) → IsNode n → (r : ReadyStep) → notes_held (note_in r.step) ≡ false
    → (p : Pending) (from : ℕ) → AllFailedBelow n.member p from
    → AllFailedBelow (after n (taken_by n r)).member p from
taken_below n is r quiet p from below k lt (queued, free) =
    let note = (taken_by n r).answer.note in
    let d = n.member.division in
    let same : engine_of (after n (taken_by n r)).member ≡ engine_of n.member =
    ap (engine_with d) (sym (facts_after n.member n.notes note is.restored))
    ∙ engine_then d n.member.facts note is.member.each
    (ap notes_held (note_is n.member r.step) ∙ quiet) in
    below k lt (subst (λ e. engine.HasLetter e k letters.Q) same queued, free)
