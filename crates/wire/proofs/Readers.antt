-- Parsers of whole texts, made of parsers that leave a rest.
use Rattle.std.proofs.Common.{◌≡◌, Bool, true, false, ◌||◌, eqb, ℕ, [], ◌∷◌, ◌++◌, length, Result, Ok, ◌⊎◌, inl, inr, refl, sym, ap, subst, ◌∙◌}
use Rattle.std.proofs.lemmas.Bool.{eqb-true}
use Rattle.std.proofs.lemmas.List.{append-nil}
use Rattle.faults.specs.Bytes.{Text, is_empty, is_one_of}
use Rattle.wire.specs.Reading.{◌>>=◌, ends}
use Rattle.wire.specs.declared.WireFault.{WireFault}
use Rattle.wire.specs.declared.WireFault.TheVariants.{Trailing}
use Rattle.wire.proofs.FieldTexts.{Took, gives}
use Rattle.wire.proofs.Steps.{bind_ok, ok_is, test_ok}

-- the text of x, followed by any rest, is parsed as x
abbrev pub IsReadBefore : {A : Type 0} → (Text → Result (A × Text) WireFault) → (A → Text) → A → Type 0
IsReadBefore at spell x = (rest : Text) → at (spell x ++ rest) ≡ gives x rest

pub read_again : {A : Type 0} (at : Text → Result (A × Text) WireFault) (spell : A → Text) (x : A) → IsReadBefore at spell x → (at (spell x) >>= ends) ≡ Ok x
read_again at spell x front =
    ap (λ (t : Text). at t >>= ends) (sym (append-nil (spell x))) ∙ ap (λ (r : Result _ WireFault). r >>= ends) (front [])

pub begins_none : {A : Type 0} (at : Text → Result (A × Text) WireFault) (spell : A → Text) (x y : A) (rest : Text)
    → IsReadBefore at spell x → IsReadBefore at spell y → spell y ≡ spell x ++ rest → (x ≡ y) × (rest ≡ [])
begins_none at spell x y rest first other same =
    let e = ok_is (x, rest) (y, []) (sym (first rest) ∙ ap at (sym same ∙ sym (append-nil (spell y))) ∙ other []) in
    (ap (λ z. z.0) e, ap (λ z. z.1) e)

nothing : (t : Text) → is_empty t ≡ true → t ≡ []
nothing [] e = refl
nothing (b ∷ bs) e = absurd cc

-- a whole text that is parsed as a valid value is the text of that value
pub whole_took : {A : Type 0} (at : Text → Result (A × Text) WireFault) (good : A → Type 0) (spell : A → Text) (text : Text) (x : A)
    → ((y : A × Text) → at text ≡ Ok y → Took good spell text y) → (at text >>= ends) ≡ Ok x → good x × (text ≡ spell x)
whole_took at good spell text x took e =
    let a = bind_ok (at text) ends x e in
    let t = test_ok (is_empty a.0.1) Trailing (Ok a.0.0) x a.2 in
    let front = took a.0 a.1 in
    let same : a.0.0 ≡ x = ok_is a.0.0 x t.1 in (
      subst good same front.good,
      front.spelled ∙ ap (λ (t : Text). spell a.0.0 ++ t) (nothing a.0.1 t.0) ∙ append-nil (spell a.0.0) ∙ ap spell same,
    )

pub some_bytes : (bytes : Text) → eqb (length bytes) 0 ≡ false → is_empty bytes ≡ false
some_bytes [] e = absurd cc
some_bytes (b ∷ bytes) e = refl

or_ways : (a b : Bool) → (a || b) ≡ true → (a ≡ true) ⊎ (b ≡ true)
or_ways true b e = inl refl
or_ways false b e = inr e

-- a kind is the first of the list or one of the others
pub one_of : (kind k : ℕ) (ks : Text) → is_one_of (k ∷ ks) kind ≡ true → (k ≡ kind) ⊎ (is_one_of ks kind ≡ true)
one_of kind k ks e = elim (or_ways _ _ e) [ inl is ↦ inl (eqb-true k kind is) | inr other ↦ inr other ]
