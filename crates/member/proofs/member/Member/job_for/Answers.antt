use Rattle.std.proofs.Common.{◌<◌, ◌∙◌, ap, length, map, subst, sym}
use Rattle.claims.specs.Deps.{AreInOrder, is_ascending}
use Rattle.engine.specs.Tree.{path_at}
use Rattle.protocol.specs.State.{State}
use Rattle.protocol.proofs.MadeBuilds.{deps_in_order}
use Rattle.protocol.proofs.PackageOrder.{paths_ascend}
use Rattle.member.proofs.member.Member.job_for.Goals as goal

pub invariant_of-result : goal.invariant_of-result
invariant_of-result c =
    let m = c.self.inside in
    let division = c.self.invariant.member.division in
    let within : c.args.unit < length m.units.units =
    subst (λ (s : State). c.args.unit < length s.division.units) (sym c.self.view_is) c.requires in
    record {
      packages = ap is_ascending c.in_ok-packages.ensures
          ∙ ((λ i. is_ascending
          (map (path_at (c.self.invariant.tree i)) (c.packages.ensures.value i)))
          ∙ paths_ascend m.units c.args.unit division within);
      deps = subst AreInOrder (sym c.in_ok-deps.ensures)
          (deps_in_order c.args.self.now c.args.unit);
    }
