-- Sets of texts, by the test that they ascend.
use Rattle.std.proofs.Common.{◌≡◌, inl, inr, true, List, [], ◌∷◌, refl, subst}
use Rattle.std.specs.Prelude.{Contains}
use Rattle.std.specs.List.{list_all}
use Rattle.std.specs.Ordering.{is_lt}
use Rattle.std.specs.declared.cmp.Ordering.{Ordering}
use Rattle.std.specs.declared.cmp.Ordering.TheVariants.{Less, Equal, Greater}
use Rattle.std.proofs.lemmas.Bool.{and_parts}
use Rattle.faults.specs.Bytes.{Text}
use Rattle.faults.specs.Pieces.{text_cmp}
use Rattle.faults.proofs.Ascending.{Rising}
use Rattle.faults.proofs.Members.{member_cases, no_members}
use Rattle.claims.specs.Deps.{is_ascending}

-- a text below all of these is below each of them
below_each : (t : Text) (ts : List Text) → list_all (λ u. is_lt (text_cmp t u)) ts ≡ true → (u : Text) → Contains ts u → text_cmp t u ≡ Less
below_each t [] all u member = absurd (no_members u member)
below_each t (w ∷ ts) all u member =
    let parts = and_parts (is_lt (text_cmp t w)) (list_all (λ u. is_lt (text_cmp t u)) ts) all in
    elim (member_cases w u ts member) [
      | inl same ↦ subst (λ v. text_cmp t v ≡ Less) same (is_less (text_cmp t w) parts.0)
      | inr later ↦ below_each t ts parts.1 u later
    ]
  where
    is_less : (o : Ordering) → is_lt o ≡ true → o ≡ Less
    is_less Less e = refl
    is_less Equal e = cc
    is_less Greater e = cc

-- texts that ascend by the test ascend
pub rises : (ts : List Text) → is_ascending ts ≡ true → Rising text_cmp ts
rises [] ascending = tt
rises (t ∷ ts) ascending =
    let parts = and_parts (list_all (λ u. is_lt (text_cmp t u)) ts) (is_ascending ts) ascending in
    (below_each t ts parts.0, rises ts parts.1)
