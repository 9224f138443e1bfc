-- The signature of an entry that is the only one with its path.
use Rattle.std.proofs.Common.{◌≡◌, true, false, List, Option, None, Some, ap, sym, subst, ◌∙◌}
use Rattle.std.specs.Prelude.{Any, MatchOption, is_some}
use Rattle.std.proofs.lemmas.Bool.{true≢false}
use Rattle.faults.specs.Bytes.{Text}
use Rattle.claims.specs.declared.deps.Dep.{Dep}
use Rattle.auditing.specs.Allowed.{IsNew, IsSignatureOf}
use Rattle.auditing.specs.inside.Standing.{IsOnlyOneWith}
use Rattle.auditing.specs.declared.entry.Entry.{Entry}

pub signature_of_one : (earlier : List Entry) (d : Dep) (e : Entry) → IsOnlyOneWith earlier d.path e → e.name ≡ d.name → e.digest ≡ d.digest
    → Any (IsSignatureOf d) earlier
signature_of_one earlier d e one name digest = (one.among.0, e, one.among.1, one.among.2, record { path = one.has; name = name; digest = digest })

pub one_of_signature : (earlier : List Entry) (d : Dep) (e : Entry) → IsOnlyOneWith earlier d.path e → Any (IsSignatureOf d) earlier → IsSignatureOf d e
one_of_signature earlier d e one (k, other, within, here, signature) =
    subst (IsSignatureOf d) (one.only other (k, within, here) signature.path) signature

-- a path that is new isn't in any signature
pub no_signature : (earlier : List Entry) (d : Dep) → IsNew earlier d.path → ¬ Any (IsSignatureOf d) earlier
no_signature earlier d new (k, other, within, here, signature) =
    let path_of : Entry → Text = λ x. x.path in
    new k other within (ap path_of here ∙ signature.path)

-- the path of an entry is not new
pub not_new : (earlier : List Entry) (path : Text) (e : Entry) → IsOnlyOneWith earlier path e → ¬ IsNew earlier path
not_new earlier path e one new =
    let path_of : Entry → Text = λ x. x.path in
    new one.among.0 e one.among.1 (ap path_of one.among.2 ∙ one.has)

-- what holds if something was found
pub some_part : {A : Type 0} (o : Option A) (P : Type 0) (Q : A → Type 0) → MatchOption o P Q → is_some o ≡ true → (x : A) × Q x
some_part None P Q h e = absurd (true≢false (sym e))
some_part (Some x) P Q h e = (x, h)

-- what holds if nothing was found
pub none_part : {A : Type 0} (o : Option A) (P : Type 0) (Q : A → Type 0) → MatchOption o P Q → is_some o ≡ false → P
none_part None P Q h e = h
none_part (Some x) P Q h e = absurd (true≢false e)
