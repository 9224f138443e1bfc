-- Lists in two parts, and the first element that fails a test.
use Rattle.std.proofs.Common.{◌≡◌, ◌⊎◌, zero, suc, Bool, true, false, List, [], ◌∷◌, ◌++◌, refl, sym, ap, ◌∙◌, arith, inl, inr, ⊎_elim}
use Rattle.std.specs.Prelude.{All, Contains}
use Rattle.std.proofs.lemmas.Bool.{true≢false}
use Rattle.std.proofs.lemmas.List.Elements.{All-cons, All-nil}

same_head : {X : Type 0} (x y : X) (xs ys : List X) → x ∷ xs ≡ y ∷ ys → x ≡ y
same_head x y xs ys e = cc

same_tail : {X : Type 0} (x y : X) (xs ys : List X) → x ∷ xs ≡ y ∷ ys → xs ≡ ys
same_tail x y xs ys e = cc

-- an empty list has no element
pub none_before : {X : Type 0} (before behind : List X) (x : X) → [] ≡ before ++ x ∷ behind → ⊥
none_before [] behind x e = cc
none_before (y ∷ ys) behind x e = cc

-- An element of a concatenation is in the first list, or the first list is a prefix of what comes
-- before it.
pub in_parts : {X : Type 0} (xs more before behind : List X) (x : X)
    → xs ++ more ≡ before ++ x ∷ behind
    → ((rest : List X) × (xs ≡ before ++ x ∷ rest)) ⊎ ((mid : List X) × (before ≡ xs ++ mid))
in_parts [] more before behind x e = inr (before, refl)
in_parts (y ∷ ys) more [] behind x e =
    inl (ys, ap (λ z. z ∷ ys) (same_head y x (ys ++ more) behind e))
in_parts {X} (y ∷ ys) more (z ∷ zs) behind x e =
    ⊎_elim (λ h. inl (h.0, ap (λ l. y ∷ l) h.1 ∙ ap (λ c. c ∷ (zs ++ x ∷ h.0)) head))
    (λ h. inr (h.0, ap (λ l. z ∷ l) h.1 ∙ ap (λ c. c ∷ (ys ++ h.0)) (sym head)))
    (in_parts ys more zs behind x
    (same_tail y z (ys ++ more) (zs ++ x ∷ behind) e))
  where
    head : y ≡ z
    head = same_head y z (ys ++ more) (zs ++ x ∷ behind) e

-- What comes before an element of a list with one more element is a prefix of the list.
pub begins_before : {X : Type 0} (xs before behind : List X) (y x : X)
    → xs ++ y ∷ [] ≡ before ++ x ∷ behind → (rest : List X) × (xs ≡ before ++ rest)
begins_before xs [] behind y x e = (xs, refl)
begins_before [] (z ∷ zs) behind y x e =
    absurd (none_before zs behind x (same_tail y z [] (zs ++ x ∷ behind) e))
begins_before (c ∷ cs) (z ∷ zs) behind y x e =
    let rest = begins_before cs zs behind y x
    (same_tail c z (cs ++ y ∷ []) (zs ++ x ∷ behind) e) in (
      rest.0,
      ap (λ l. c ∷ l) rest.1
          ∙ ap (λ z. z ∷ (zs ++ rest.0)) (same_head c z (cs ++ y ∷ []) (zs ++ x ∷ behind) e),
    )

-- the first element that fails the test, and the elements before it, which pass
pub record IsFirstWithout {X : Type 0} (t : X → Bool) (xs : List X) : Type 0 where
  pub before : List X
  pub first : X
  pub behind : List X
  pub parts : xs ≡ before ++ first ∷ behind
  pub pass : All (λ x. t x ≡ true) before
  pub fails : t first ≡ false

-- If an element fails, there is a first one.
pub first_without : {X : Type 0} (t : X → Bool) (xs : List X) (x : X) → Contains xs x
    → t x ≡ false → IsFirstWithout t xs
first_without t [] x (k, within, e) off = absurd (omega arith)
first_without {X} t (y ∷ ys) x h off = by (t y) refl (λ on. first_without t ys x (later on h) off)
  where
    later : t y ≡ true → Contains (y ∷ ys) x → Contains ys x
    later on (zero, within, e) = absurd (true≢false (sym on ∙ ap t e ∙ off))
    later on (suc k, within, e) = (k, omega (arith, within), e)

    by : (b : Bool) → t y ≡ b → (t y ≡ true → IsFirstWithout t ys) → IsFirstWithout t (y ∷ ys)
    by false e rest = record {
      before = [];
      first = y;
      behind = ys;
      parts = refl;
      pass = All-nil (λ x. t x ≡ true);
      fails = e;
    }
    by true e rest = let r = rest e in record {
      before = y ∷ r.before;
      first = r.first;
      behind = r.behind;
      parts = ap (λ l. y ∷ l) r.parts;
      pass = All-cons (λ x. t x ≡ true) y r.before e r.pass;
      fails = r.fails;
    }
