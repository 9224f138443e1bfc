use Rattle.std.proofs.Common.{◌≡◌, Some, false, option_map, ap, sym, ◌∙◌}
use Rattle.std.specs.Option.{option_map_or}
use Rattle.listing.specs.inside.BarePackages.{all_match}
use Rattle.listing.specs.inside.Table.{name_in}
use Rattle.listing.proofs.dependency.Dependency.is_met_by.Goals as goal

pub returns-in-Some : goal.returns-in-Some
returns-in-Some c =
    let specs = c.args.self.now.specs.items in
    let named : name_in c.args.row.now ≡ Some c.in-Some.name.now = sym c.name.ensures ∙ ap (option_map (λ n. n.now)) c.in-Some.is in
    let all : c.all_match.result ≡ all_match specs c.in-Some.name.now = c.all_match.ensures ∙ ap (λ ss. all_match ss c.in-Some.name.now) c.as_slice.ensures.value in
    all ∙ sym (ap (λ o. option_map_or (all_match specs) o false) named)
