-- A member that knows nothing.
use Rattle.std.proofs.Common.{◌≡◌, ◌<◌, ℕ, Bool, false, List, [], ◌∷◌, Option, Some}
use Rattle.std.proofs.Common.{None, refl, ap, ◌∙◌, filter, length, map, replicate}
use Rattle.std.specs.Prelude.{cond, is_some}
use Rattle.std.specs.FinSet as set
use Rattle.std.proofs.lemmas.List.Elements.{All-map, All-nil}
use Rattle.claims.specs.Member.{Facts, no_facts}
use Rattle.ballots.specs.Weights.{AreWeights}
use Rattle.ballots.specs.declared.message.Note.{Note}
use Rattle.engine.specs.Division.{Division, IsDivision, number_named, number_of}
use Rattle.engine.specs.Units.{positions}
use Rattle.protocol.specs.State.{State, Value, fresh, holds_package, is_held_any}
use Rattle.protocol.specs.Member.{IsMember}
use Rattle.protocol.proofs.Known.{at_any}
use Rattle.protocol.proofs.Restored.{notes_restore}
use Rattle.member.specs.shared.Fields.{engine_with}

-- nothing remains if nothing passes the filter
nothing_kept : (P : ℕ → Bool) (xs : List ℕ) → ((k : ℕ) → P k ≡ false) → filter P xs ≡ []
nothing_kept P [] none = refl
nothing_kept P (x ∷ xs) none =
    ap (λ b. cond b (x ∷ filter P xs) (filter P xs)) (none x) ∙ nothing_kept P xs none

-- the same value for each
pub each_alike : {X Y : Type 0} (y : Y) (xs : List X) → map (λ x. y) xs ≡ replicate (length xs) y
each_alike y [] = refl
each_alike y (x ∷ xs) = ap (λ ys. y ∷ ys) (each_alike y xs)

module _ (d : Division) where
  -- the state of a member that knows nothing
  abbrev unknowing : State
  unknowing = fresh d [] 0

  nothing_held : (q : ℕ) → holds_package unknowing q ≡ false
  nothing_held q = by_unit (number_of d q)
    where
      by_unit : (u : Option ℕ) → is_held_any unknowing u ≡ false
      by_unit None = refl
      by_unit (Some u) =
          at_any (λ (f : Facts Value). is_some f.held ≡ false) (map (λ x. no_facts) d.units) u
          no_facts (All-map (λ (f : Facts Value). is_some f.held ≡ false) (λ x. no_facts) d.units
          (λ k x within. refl)) refl

  -- its engine has nothing agreed
  pub fresh_engine : engine_with d (map (λ x. no_facts) d.units)
      ≡ record { tree = d.tree; agreed = set.empty }
  fresh_engine =
      ap (λ ps. record { tree = d.tree; agreed = set.from_list ps })
      (nothing_kept (holds_package unknowing) (positions d.tree) nothing_held)

-- it is a member
pub fresh_member : (d : Division) (weights : List ℕ) (me : ℕ) → IsDivision d → AreWeights weights
    → me < length weights → IsMember (fresh d weights me)
fresh_member d weights me is are lt =
    (notes_restore d weights me [] is are lt
    (All-nil (λ (n : Note Value). (u : ℕ) × (number_named d n.path ≡ Some u)))).member
