use Rattle.std.proofs.Common.{◌≡◌, ◌∙◌, ℕ, Bool, List, ◌∷◌, None, sym, ap, subst, refl, ◌⊎◌, inl, inr, Bor}
use Rattle.std.proofs.lemmas.Result.{IfErr-weaker, on_ok_weaker}
use Rattle.json.specs.Json.{parse_map}
use Rattle.json.specs.Reads.{token_of}
use Rattle.json.specs.Token as spec
use Rattle.json.specs.declared.token.Token.{Token}
use Rattle.json.specs.declared.token.Token.TheVariants as variants
use Rattle.serde_json.specs.Data.{number, object}
use Rattle.std.specs.Prelude.{option_map}
use Rattle.traces.specs.inside.Given.{Fails}
use Rattle.traces.specs.inside.Kept.{PassesNoArray, value_read}
use Rattle.traces.proofs.Given.{fails_along}
use Rattle.traces.proofs.Objects.{none_first, number_first, object_first, passes_boolean, passes_null, passes_number, passes_object, passes_string}
use Rattle.traces.proofs.stream.pass.Goals as goal

passes_plain : (t : Token) (ts : List spec.Token) → ((s : Bor (List ℕ)) × (t ≡ variants.String s)) ⊎ (((b : Bool) × (t ≡ variants.Bool b)) ⊎ (t ≡ variants.Null)) → PassesNoArray (token_of t ∷ ts) ts
passes_plain t ts is =
    let P = λ (u : Token). PassesNoArray (token_of u ∷ ts) ts in
    elim is [
      | inl text ↦ subst P (sym text.1) (passes_string text.0.now ts)
      | inr more ↦ elim more [ inl b ↦ subst P (sym b.1) (passes_boolean b.0 ts) | inr null ↦ subst P (sym null) (passes_null ts) ]
    ]

none_other : (t : Token) (ts : List spec.Token) → (t ≡ variants.BeginArray → ⊥) → (t ≡ variants.BeginObject → ⊥) → ((s : Bor (List ℕ)) → t ≡ variants.String s → ⊥) → ((s : Bor (List ℕ)) → t ≡ variants.Number s → ⊥)
    → ((b : Bool) → t ≡ variants.Bool b → ⊥) → (t ≡ variants.Null → ⊥) → value_read 126 (token_of t ∷ ts) ≡ None
none_other variants.BeginObject ts a o s n b l = absurd (o refl)
none_other variants.EndObject ts a o s n b l = none_first spec.end_object ts (λ _ _. refl)
none_other variants.BeginArray ts a o s n b l = absurd (a refl)
none_other variants.EndArray ts a o s n b l = none_first spec.end_array ts (λ _ _. refl)
none_other (variants.Key k) ts a o s n b l = none_first (spec.key k.now) ts (λ _ _. refl)
none_other (variants.String x) ts a o s n b l = absurd (s x refl)
none_other (variants.Number x) ts a o s n b l = absurd (n x refl)
none_other (variants.Bool x) ts a o s n b l = absurd (b x refl)
none_other variants.Null ts a o s n b l = absurd (l refl)
none_other variants.Bad ts a o s n b l = none_first spec.bad ts (λ _ _. refl)

pub returns-in-BeginObject-clause-ok : goal.returns-in-BeginObject-clause-ok
returns-in-BeginObject-clause-ok c =
    let ts = c.args.reader.now in
    let P = λ (t : Token). PassesNoArray (token_of t ∷ ts) c.pass_members.new.reader in
    on_ok_weaker c.pass_members.result (λ passed. subst P (sym c.in-BeginObject.is) (passes_object ts c.pass_members.new.reader passed)) c.pass_members.ensures.ok

pub returns-in-BeginObject-clause-err : goal.returns-in-BeginObject-clause-err
returns-in-BeginObject-clause-err c =
    let ts = c.args.reader.now in
    IfErr-weaker c.pass_members.result _ _ (λ e fails.
    let P = λ (t : Token). Fails e (value_read 126 (token_of t ∷ ts)) in
    subst P (sym c.in-BeginObject.is) (fails_along e _ _ (λ none. object_first ts ∙ ap (parse_map object) none) fails)) c.pass_members.ensures.err

pub returns-in-Number-clause-ok : goal.returns-in-Number-clause-ok
returns-in-Number-clause-ok c =
    let ts = c.args.reader.now in
    let P = λ (t : Token). PassesNoArray (token_of t ∷ ts) ts in
    on_ok_weaker c.pass_number.result (λ some. subst P (sym c.in-Number.is) (passes_number c.in-Number.text.now ts _ refl some)) c.pass_number.ensures.ok

pub returns-in-Number-clause-err : goal.returns-in-Number-clause-err
returns-in-Number-clause-err c =
    let ts = c.args.reader.now in
    let s = c.in-Number.text.now in
    IfErr-weaker c.pass_number.result _ _ (λ e fails.
    let P = λ (t : Token). Fails e (value_read 126 (token_of t ∷ ts)) in
    subst P (sym c.in-Number.is) (fails_along e _ _ (λ none. number_first s ts ∙ ap (λ o. option_map (λ d. (d, ts)) (option_map number o)) none) fails)) c.pass_number.ensures.err

pub returns-in-String-clause-ok : goal.returns-in-String-clause-ok
returns-in-String-clause-ok c = passes_plain c.args.token c.args.reader.now c.in-String.is

pub returns-in_default-clause-err : goal.returns-in_default-clause-err
returns-in_default-clause-err c =
    let other = c.in_default in
    none_other c.args.token c.args.reader.now c.requires.no_array other.not-BeginObject other.not-String other.not-Number other.not-Bool other.not-Null
