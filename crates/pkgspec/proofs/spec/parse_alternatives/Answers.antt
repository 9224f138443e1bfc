use Rattle.pkgspec.specs.Spec.{alternative_fault, alternative_of}
use Rattle.pkgspec.proofs.Steps.{first_given_more, map_more, ok_from_fault}
use Rattle.pkgspec.proofs.spec.parse_alternatives.Goals as goal

pub alternatives-preserved : goal.alternatives-preserved
alternatives-preserved c =
    let first = c.in-Some.text.now in
    let behind = c.next.new.self in
    let left = c.alternatives.left in
    let cut = c.in-Some.ensures.steps in
    let parsed = ok_from_fault (alternative_fault first) (alternative_of first) c.in_ok-parse.field-0 c.in_ok-parse.ensures in
    record {
      read = rw c.in_ok-push.ensures.items (map_more _ c.alternatives.alternatives.items left first behind cut alternative_of c.in_ok-parse.field-0 c.alternatives.invariant.read parsed.1);
      faultless = first_given_more left first behind cut alternative_fault _ c.alternatives.invariant.faultless parsed.0;
    }
