use Rattle.std.proofs.Common.{◌≡◌, ◌≢◌, ◌++◌, ℕ, List, Bor, Option, None, Some}
use Rattle.std.specs.Prelude.{IfSome, MatchOption}
use Rattle.std.proofs.lemmas.Bool.Decides.{Decides-eqb}
use Rattle.std.proofs.lemmas.Slice.Eq.{strip_prefix_is}
use Rattle.package_record.proofs.matching.behind.Goals as goal

if_some : (text front : List ℕ) (r : Option (Bor (List ℕ)))
    → MatchOption r ((rest : List ℕ) → text ≢ front ++ rest) (λ x. text ≡ front ++ x.now)
    → IfSome r (λ x. text ≡ front ++ x.now)
if_some text front None is = tt
if_some text front (Some x) is = is

pub returns : goal.returns
returns c =
    if_some c.args.text.now c.args.front.now c.strip_prefix.result
    (strip_prefix_is Decides-eqb c.args.text.now c.args.front.now c.strip_prefix.result
    c.strip_prefix.ensures.cases)
