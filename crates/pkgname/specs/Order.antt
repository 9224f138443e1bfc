-- The order of versions.
use Rattle.std.specs.Cmp.Lexicographic.{slice_cmp}
use Rattle.std.specs.Option.{option_cmp}
use Rattle.std.specs.Ordering.{nat_cmp, on, then_cmp}
use Rattle.std.specs.declared.cmp.Ordering.{Ordering}
use Rattle.faults.specs.Bytes.{Text}
use Rattle.pkgname.specs.Rest.{rest_cmp, rest_of}
use Rattle.pkgname.specs.Version.{Component, Parts, parts_of}

-- components compare by number, and then by rest
abbrev pub component_cmp : Component → Component → Ordering
component_cmp = then_cmp (on (λ c. c.number) nat_cmp) (on (λ c. rest_of c.rest) rest_cmp)

-- by the components from the left, where the body that ends first is less; then by the marker p,
-- where having none is less
abbrev pub body_cmp : Parts → Parts → Ordering
body_cmp = then_cmp
    (on (λ x. x.components) (slice_cmp component_cmp))
    (on (λ x. x.p) (option_cmp nat_cmp))

-- by the marker v, where having none is less; then by components and the marker p
abbrev pub parts_cmp : Parts → Parts → Ordering
parts_cmp = then_cmp (on (λ x. x.v) (option_cmp nat_cmp)) body_cmp

-- the order of versions, by their parts
abbrev pub version_cmp : Text → Text → Ordering
version_cmp = on parts_of parts_cmp
