use Rattle.pkgspec.specs.Spec.{demand_of, is_demand}
use Rattle.pkgspec.specs.declared.SpecFault.TheVariants.{BadByte}
use Rattle.pkgspec.proofs.Steps.{all_more, map_more, ok_from_test}
use Rattle.pkgspec.proofs.alternative.parse_demands.Goals as goal

pub demands-preserved : goal.demands-preserved
demands-preserved c =
    let first = c.in-Some.text.now in
    let behind = c.next.new.self in
    let left = c.demands.left in
    let cut = c.in-Some.ensures.steps in
    let parsed = ok_from_test (is_demand first) (demand_of first) c.in_ok-parse.field-0 BadByte c.in_ok-parse.ensures in
    record {
      read = rw c.in_ok-push.ensures.items (map_more _ c.demands.demands.items left first behind cut demand_of c.in_ok-parse.field-0 c.demands.invariant.read parsed.1);
      faultless = all_more left first behind cut is_demand _ c.demands.invariant.faultless parsed.0;
    }
