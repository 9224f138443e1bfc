use Rattle.std.proofs.Common.{◌≡◌, ◌∙◌, ◌++◌, ◌∷◌, [], Some, ap, refl, sym, arith, cond, false, is_some, length, position}
use Rattle.std.proofs.lemmas.Slice.Eq.{bytes_eq-Decides}
use Rattle.std.specs.List.{list_any}
use Rattle.std.specs.Str.{bytes_eq}
use Rattle.indexmap.specs.IndexSet.{insert_key}
use Rattle.engine.proofs.Lists.{place_new}
use Rattle.engine.proofs.gathering.number_of_group.Goals as goal

pub returns-clause-number : goal.returns-clause-number
returns-clause-number c =
    let group = c.args.group.now in
    let keys = c.args.groups.now.keys in
    let absent : list_any (bytes_eq group) keys ≡ false = sym c.get_index_of.ensures.found ∙ ap is_some c.in_default.is in
    let last : length keys ≡ c.len-number.result = omega (arith, c.len-number.ensures.len) in
    ap (position (bytes_eq group))
    (c.in_ok-insert.ensures.keys ∙ ap (insert_key bytes_eq keys) c.in_ok-copy.ensures ∙ ap (λ b. cond b keys (keys ++ group ∷ [])) absent)
    ∙ place_new (bytes_eq group) keys group absent ((bytes_eq-Decides group group).1 refl) ∙ ap (λ k. Some k) last
