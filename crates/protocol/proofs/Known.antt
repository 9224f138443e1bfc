-- The effect of a note on what a member knows.
use Rattle.std.proofs.Common.{◌≡◌, ◌<◌, ℕ, Bool, true, false, All, List, length, Option, None, Some}
use Rattle.std.proofs.Common.{refl, sym, ap, subst, ◌∙◌, inl, inr, if◌then◌else◌}
use Rattle.std.specs.Prelude.{is_some, slice_set}
use Rattle.std.specs.List.{slice_index_or}
use Rattle.std.proofs.lemmas.Bool.{cases_eq, cases_lt, false≢true}
use Rattle.std.proofs.lemmas.List.{get_or-set_other, get_or-set_same, get_or_past, length-set}
use Rattle.std.proofs.lemmas.List.Elements.{All-set}
use Rattle.claims.specs.declared.claim.Claim.{Claim}
use Rattle.claims.specs.Claims.{is_above}
use Rattle.claims.specs.Member as members
use Rattle.claims.specs.Member.{Facts, first, greater, no_facts, noted}
use Rattle.ballots.specs.InTheAgreement.{note_of}
use Rattle.ballots.specs.Pledge.{HasPromised}
use Rattle.ballots.specs.declared.message.Note.{Note}
use Rattle.engine.specs.Division.{Division, number_named, number_of}
use Rattle.protocol.specs.State.{State, Value, facts_at, facts_then, holds_package, is_held_any}
use Rattle.protocol.specs.State.{noted_at}
use Rattle.protocol.specs.Answers.{Answer, after}

-- what holds of each element, and of the default, holds at each index
pub at_any : {X : Type 0} (P : X → Type 0) (xs : List X) (k : ℕ) (d : X) → All P xs → P d
    → P (slice_index_or xs k d)
at_any P xs k d all past =
    elim (cases_lt k (length xs)) [
      | inl lt ↦ all k d lt
      | inr ge ↦ subst P (sym (get_or_past xs k d ge)) past
    ]

-- ---- a member that voted has promised

-- there is a promise after one more promise
never_none : (p : Option Claim) (c : Claim) → greater p c ≡ None → ⊥
never_none None c e = let no : Some c ≡ None = e in cc
never_none (Some p) c e = by_test (is_above c (Some p)) e
  where
    by_test : (b : Bool) → (if b then Some c else Some p) ≡ None → ⊥
    by_test true e = let no : Some c ≡ None = e in cc
    by_test false e = let no : Some p ≡ None = e in cc

-- if these facts have a vote, they have a promise
abbrev pub Pledged : Facts Value → Type 0
Pledged f = HasPromised f.promised f.voted

noted_pledged : (f : Facts Value) (n : members.Note Value) → Pledged f → Pledged (noted f n)
noted_pledged f (members.Opened round) is = is
noted_pledged f (members.Promised c) is = λ none. absurd (never_none f.promised c none)
noted_pledged f (members.Voted b) is = λ none. absurd (never_none f.promised b.claim none)
noted_pledged f (members.Held v) is = is

-- whatever is noted
pub pledged_then : (d : Division) (facts : List (Facts Value)) (n : Option (Note Value))
    → All Pledged facts → All Pledged (facts_then d facts n)
pledged_then d facts None are = are
pledged_then d facts (Some n) are = by_unit (number_named d n.path)
  where
    by_unit : (u : Option ℕ) → All Pledged (noted_at u facts n)
    by_unit None = are
    by_unit (Some u) =
        All-set Pledged facts u _
        (noted_pledged (slice_index_or facts u no_facts) (note_of n.fact)
        (at_any Pledged facts u no_facts are (λ e. refl))) are

-- the number of units with facts stays the same
pub each_then : (d : Division) (facts : List (Facts Value)) (n : Option (Note Value))
    → length (facts_then d facts n) ≡ length facts
each_then d facts None = refl
each_then d facts (Some n) = by_unit (number_named d n.path)
  where
    by_unit : (u : Option ℕ) → length (noted_at u facts n) ≡ length facts
    by_unit None = refl
    by_unit (Some u) = length-set facts u _

-- ---- what is held stays held

held_then : (f : Facts Value) (n : members.Note Value) (v : Value) → f.held ≡ Some v
    → (noted f n).held ≡ Some v
held_then f (members.Opened round) v e = e
held_then f (members.Promised c) v e = e
held_then f (members.Voted b) v e = e
held_then f (members.Held w) v e = ap (λ h. first h w) e

-- if something is known of a number, it is a unit's
known_within : (facts : List (Facts Value)) (u : ℕ) (v : Value)
    → (slice_index_or facts u no_facts).held ≡ Some v → u < length facts
known_within facts u v e =
    elim (cases_lt u (length facts)) [
      | inl lt ↦ lt
      | inr past ↦ absurd (let no : None ≡ Some v =
          sym (ap (λ (f : Facts Value). f.held) (get_or_past facts u no_facts past)) ∙ e in cc)
    ]

pub held_stays_known : (d : Division) (facts : List (Facts Value)) (n : Option (Note Value)) (u : ℕ)
    (v : Value)
    → (slice_index_or facts u no_facts).held ≡ Some v
    → (slice_index_or (facts_then d facts n) u no_facts).held ≡ Some v
held_stays_known d facts None u v e = e
held_stays_known d facts (Some n) u v e = by_unit (number_named d n.path)
  where
    by_unit : (w : Option ℕ) → (slice_index_or (noted_at w facts n) u no_facts).held ≡ Some v
    by_unit None = e
    by_unit (Some w) =
        let f = noted (slice_index_or facts w no_facts) (note_of n.fact) in
        elim (cases_eq u w) [
          | inl same ↦
              ap (λ k. (slice_index_or (slice_set facts w f) k no_facts).held) same
              ∙ ap (λ (g : Facts Value). g.held)
              (get_or-set_same facts w f no_facts
              (subst (λ k. k < length facts) same (known_within facts u v e)))
              ∙ held_then (slice_index_or facts w no_facts) (note_of n.fact) v
              (subst (λ k. (slice_index_or facts k no_facts).held ≡ Some v) same e)
          | inr other ↦ ap (λ (g : Facts Value). g.held)
              (get_or-set_other facts w u f no_facts other) ∙ e
        ]

-- the same for a member
pub held_stays : (s : State) (a : Answer) (u : ℕ) (v : Value) → (facts_at s u).held ≡ Some v
    → (facts_at (after s a) u).held ≡ Some v
held_stays s a u v e = held_stays_known s.division s.facts a.note u v e

pub package_stays_held : (s : State) (a : Answer) (p : ℕ) → holds_package s p ≡ true
    → holds_package (after s a) p ≡ true
package_stays_held s a p held = by_unit (number_of s.division p) held
  where
    by_build : (u : ℕ) (h : Option Value) → (facts_at s u).held ≡ h → is_some h ≡ true
        → is_held_any (after s a) (Some u) ≡ true
    by_build u None at e = absurd (false≢true e)
    by_build u (Some v) at e = ap is_some (held_stays s a u v at)

    by_unit : (u : Option ℕ) → is_held_any s u ≡ true → is_held_any (after s a) u ≡ true
    by_unit None e = absurd (false≢true e)
    by_unit (Some u) e = by_build u (facts_at s u).held refl e
