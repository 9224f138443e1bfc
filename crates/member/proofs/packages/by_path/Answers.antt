use Rattle.std.proofs.Common.{◌≡◌, ◌∙◌, sym, ap, cond}
use Rattle.std.specs.Str.{bytes_eq}
use Rattle.std.specs.Prelude.{is_some, Option, List, Some, false, true}
use Rattle.package_record.specs.Content.{NamedFile}
use Rattle.member.specs.inside.Packages.{files_at}
use Rattle.member.proofs.GivenFiles.{given_again, given_first}
use Rattle.member.proofs.packages.by_path.Goals as goal

pub loop-path-preserved-in-Continue-1 : goal.loop-path-preserved-in-Continue-1
loop-path-preserved-in-Continue-1 c = λ q.
    let invariant = c.loop-path.invariant in
    let none : is_some (files_at c.loop-path.yielded c.in-Some.path) ≡ false =
    ap (λ (o : Option (List NamedFile)). is_some o) (sym (invariant c.in-Some.path))
    ∙ (sym c.contains_key.ensures ∙ c.if-not-contains_key.true) in
    c.in_ok-keep.ensures q
    ∙ (ap (λ o. cond (bytes_eq c.in-Some.path q) (Some c.in-Some.given) o) (invariant q)
    ∙ sym (given_first c.loop-path.yielded c.in-Some.path c.in-Some.given none q))

pub loop-path-preserved : goal.loop-path-preserved
loop-path-preserved c = λ q.
    let invariant = c.loop-path.invariant in
    let has : is_some (files_at c.loop-path.yielded c.in-Some.path) ≡ true =
    ap (λ (o : Option (List NamedFile)). is_some o) (sym (invariant c.in-Some.path))
    ∙ (sym c.contains_key.ensures ∙ c.if-not-contains_key.false) in
    invariant q ∙ sym (given_again c.loop-path.yielded c.in-Some.path c.in-Some.given has q)
