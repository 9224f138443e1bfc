use Rattle.std.proofs.Common.{◌≡◌, map}
use Rattle.listing.specs.inside.BarePackages.{resolution_of}
use Rattle.listing.proofs.dependency.Dependencies.resolve.Given as goal

abbrev pub invariant-loop-dependency : goal.invariant-loop-dependency
invariant-loop-dependency l = l.resolutions.items ≡ map (λ d. resolution_of l.listed.keys l.rows d.now) l.yielded
