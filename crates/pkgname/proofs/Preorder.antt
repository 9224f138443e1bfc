-- The order of versions is a total preorder, because each order that it is made of is one.
use Rattle.std.specs.Cmp.{IsTotalOrder, nat_cmp_total, on_total, then_total}
use Rattle.std.specs.Cmp.Lexicographic.{lists_total, nat_list_cmp_total, options_total}
use Rattle.pkgname.specs.Laws.{VersionOrderIsTotalPreorder}
use Rattle.pkgname.specs.Order.{component_cmp, parts_cmp}
use Rattle.pkgname.specs.Rest.{place_of, rest_cmp, rest_of}
use Rattle.pkgname.specs.Version.{parts_of}

-- so is the order of rests: by rank, then by number, then by bytes
rest_cmp_total : IsTotalOrder rest_cmp
rest_cmp_total = then_total (on_total (λ r. place_of r.rank) nat_cmp_total) (then_total (on_total (λ r. r.number) nat_cmp_total) (on_total (λ r. r.text) nat_list_cmp_total))

-- so is the order of components: by number, then by rest
component_cmp_total : IsTotalOrder component_cmp
component_cmp_total = then_total (on_total (λ c. c.number) nat_cmp_total) (on_total (λ c. rest_of c.rest) rest_cmp_total)

-- so is the order of parts: by the marker v, then by the components, then by the marker p
parts_cmp_total : IsTotalOrder parts_cmp
parts_cmp_total =
    then_total (on_total (λ x. x.v) (options_total nat_cmp_total))
    (then_total (on_total (λ x. x.components) (lists_total component_cmp_total)) (on_total (λ x. x.p) (options_total nat_cmp_total)))

-- versions compare by their parts
pub version_cmp_total : VersionOrderIsTotalPreorder
version_cmp_total = on_total parts_of parts_cmp_total
