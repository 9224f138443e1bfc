-- Signatures that were parsed, with their texts.
use Rattle.std.proofs.Common.{◌≡◌, ◌++◌, ◌∙◌, List, [], ◌∷◌, Option, Some, IfSome, All, Contains, length, arith, ap, sym, subst}
use Rattle.std.specs.Map.{lookup}
use Rattle.std.specs.Str.{bytes_eq}
use Rattle.std.proofs.lemmas.List.{get_or-map, length-map, map_push}
use Rattle.std.proofs.lemmas.List.Elements.{All-contains, All-push, Contains-push}
use Rattle.std.proofs.lemmas.Map.Views.{IfSome-lookup}
use Rattle.std.proofs.lemmas.Slice.Eq.{bytes_eq-Decides}
use Rattle.claims.specs.declared.deps.Dep.{Dep}
use Rattle.faults.specs.Bytes.{Text, blank}
use Rattle.faults.specs.Pieces.{pieces_at}
use Rattle.package_lists.specs.inside.Signatures.{Entry, HasThreeFields, IsReadEntry, IsSignature, texts_of_entries}
use Rattle.package_lists.proofs.Fields.{some_pieces}

-- ---- a text that was parsed before

entry_there : (es : List Entry) (text : Text) (d : Dep) → Some d ≡ lookup (bytes_eq text) es → Contains es (text, d)
entry_there es text d found =
    let there : IfSome (Some d) (λ v. Contains es (text, v)) =
    subst (λ (o : Option Dep). IfSome o (λ v. Contains es (text, v))) (sym found)
    (IfSome-lookup {eq = bytes_eq} (λ x y e. (bytes_eq-Decides x y).0 e) text es) in
    there

-- it was parsed as its signature
pub found_is : (es : List Entry) (text : Text) (d : Dep) → Some d ≡ lookup (bytes_eq text) es → All IsReadEntry es → IsSignature text d
found_is es text d found good = All-contains IsReadEntry es (text, d) good (entry_there es text d found)

pub found_there : (es : List Entry) (text : Text) (d : Dep) → Some d ≡ lookup (bytes_eq text) es → Contains (texts_of_entries es) text
found_there es text d found =
    let first : Entry → Text = λ (e : Entry). e.0 in
    let at = entry_there es text d found in (
      at.0,
      omega (arith, at.1, length-map es first),
      get_or-map first es at.0 (text, d) text at.1 ∙ ap first at.2,
    )

-- ---- one more

pub entries_good : (es new : List Entry) (text : Text) (d : Dep) → new ≡ es ++ (text, d) ∷ [] → All IsReadEntry es → IsSignature text d
    → All IsReadEntry new
entries_good es new text d is good read = subst (All IsReadEntry) (sym is) (All-push IsReadEntry es (text, d) good read)

pub new_there : (es new : List Entry) (text : Text) (d : Dep) → new ≡ es ++ (text, d) ∷ [] → Contains (texts_of_entries new) text
new_there es new text d is =
    subst (λ (ts : List Text). Contains ts text) (sym (ap texts_of_entries is ∙ map_push (λ (e : Entry). e.0) es (text, d)))
    (Contains-push (texts_of_entries es) text)

-- ---- fields

-- a text with three spaces has too many fields
pub more_fields : (text path behind name digest more rest : Text) → pieces_at blank text ≡ path ∷ pieces_at blank behind
    → pieces_at blank behind ≡ name ∷ pieces_at blank digest → pieces_at blank digest ≡ more ∷ pieces_at blank rest → ¬ HasThreeFields text
more_fields text path behind name digest more rest first second third (p, n, d, fields) =
    let none : pieces_at blank rest ≡ [] = cc in
    omega (arith, ap length none, some_pieces blank rest)
