use Rattle.std.proofs.Common.{◌∙◌, sym, inl, inr, refl, ⊎_elim}
use Rattle.std.proofs.lemmas.Result.{err_from_is_err_and}
use Rattle.pkgspec.specs.Spec.{bound_of, is_bound}
use Rattle.pkgspec.specs.declared.SpecFault.TheVariants.{BadBound}
use Rattle.pkgspec.proofs.Steps.{all_failed, all_more, err_from_test, filter_map_more, filter_map_same, ok_from_test}
use Rattle.pkgspec.proofs.alternative.parse_bounds.Goals as goal

pub returns-in_err-bound : goal.returns-in_err-bound
returns-in_err-bound c =
    let first = c.in-Some.text.now in
    let behind = c.next.new.self in
    let left = c.bounds.left in
    let cut = c.in-Some.ensures.steps in
    let exit = err_from_is_err_and c.from_residual.result c.from_residual.ensures.1 in
    rw (exit.1, exit.2) (⊎_elim inl (λ fault.
    let parsed = err_from_test (is_bound first) (bound_of first) BadBound c.in_err-bound.field-0.0 fault in
    inr (rw (all_failed left first behind cut is_bound _ c.bounds.invariant.faultless parsed.0, parsed.1) refl)) c.in_err-bound.ensures)

pub bounds-preserved-in-Continue-branch-3 : goal.bounds-preserved-in-Continue-branch-3
bounds-preserved-in-Continue-branch-3 c =
    let first = c.in-Some.text.now in
    let behind = c.next.new.self in
    let left = c.bounds.left in
    let cut = c.in-Some.ensures.steps in
    let parsed = ok_from_test (is_bound first) (bound_of first) c.in_ok-bound.field-0 BadBound c.in_ok-bound.ensures in
    record {
      read = rw c.in_ok-push.ensures.items (filter_map_more _ c.bounds.bounds.items left first behind cut bound_of c.in-Some-2.bound c.bounds.invariant.read (sym parsed.1 ∙ c.in-Some-2.is));
      faultless = all_more left first behind cut is_bound _ c.bounds.invariant.faultless parsed.0;
    }

pub bounds-preserved : goal.bounds-preserved
bounds-preserved c =
    let first = c.in-Some.text.now in
    let behind = c.next.new.self in
    let left = c.bounds.left in
    let cut = c.in-Some.ensures.steps in
    let parsed = ok_from_test (is_bound first) (bound_of first) c.in_ok-bound.field-0 BadBound c.in_ok-bound.ensures in
    record {
      read = filter_map_same _ c.bounds.bounds.items left first behind cut bound_of c.bounds.invariant.read (sym parsed.1 ∙ c.in_default-2.is);
      faultless = all_more left first behind cut is_bound _ c.bounds.invariant.faultless parsed.0;
    }
