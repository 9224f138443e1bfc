use Rattle.std.proofs.Common.{rules, ◌≡◌}
use Rattle.std.specs.Ordering.{nat_cmp, ordering_then}
use Rattle.faults.specs.Pieces.{text_cmp}
use Rattle.pkgname.proofs.rest.Rest.compare_within_rank.Goals as goal

pub returns : goal.returns
returns c =
    let compared : c.then_with.result ≡ ordering_then (nat_cmp c.self.inside.number c.other.inside.number) (text_cmp c.self.inside.text.now c.other.inside.text.now) = search rules in
    rw (← c.self.view_is, ← c.other.view_is) compared
