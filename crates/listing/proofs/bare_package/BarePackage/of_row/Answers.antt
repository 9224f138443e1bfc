use Rattle.std.proofs.Common.{Some, option_map, ap, sym, ◌∙◌, rules}
use Rattle.listing.proofs.bare_package.BarePackage.of_row.Goals as goal

pub returns : goal.returns
returns c = record {
  name = sym c.name.ensures ∙ ap (option_map (λ n. n.now)) c.in-Some.is ∙ ap Some (sym c.in_ok-copy.ensures);
  build = search rules;
  run = search rules;
  marked = c.is_marked.ensures;
}
