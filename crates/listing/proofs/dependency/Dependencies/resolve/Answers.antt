use Rattle.std.proofs.Common.{map, ap, ◌∙◌}
use Rattle.std.proofs.lemmas.Map.Iter.{iter_end}
use Rattle.listing.specs.inside.BarePackages.{resolution_of, resolution_of_word}
use Rattle.listing.proofs.Numbers.{resolutions_are, map_deref, map_values}
use Rattle.listing.proofs.dependency.Dependencies.resolve.Goals as goal

pub returns : goal.returns
returns c =
    let listed = c.args.listed.now.keys in
    let rows = c.args.rows.now in
    let whole = iter_end _ _ _ _ _ _ _ (cc) c.loop-dependency.yielded_by c.in-None.is c.next.ensures.steps in
    c.loop-dependency.invariant ∙ map_deref (resolution_of listed rows) c.loop-dependency.yielded ∙ ap (map (resolution_of listed rows)) whole.0
    ∙ map_values (resolution_of listed rows) c.self.inside.read.entries
    ∙ resolutions_are listed rows c.self.inside.read.entries c.self.invariant ∙ ap (map (resolution_of_word listed rows)) c.self.view_is
