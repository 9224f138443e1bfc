use Rattle.std.proofs.Common.{◌≡◌, length, map}
use Rattle.std.specs.Cmp.Lexicographic.{slice_cmp}
use Rattle.pkgname.specs.Order.{component_cmp}
use Rattle.pkgname.specs.Version.{component_of, components_of}
use Rattle.pkgname.proofs.parts.compare_bodies.Given as goal

abbrev pub invariant-components : goal.invariant-components
invariant-components l = slice_cmp component_cmp (components_of l.fn.own) (components_of l.fn.other)
    ≡ slice_cmp component_cmp (map component_of l.own_pieces) (map component_of l.other_pieces)

abbrev pub decreases-components : goal.decreases-components
decreases-components l = length l.own_pieces
