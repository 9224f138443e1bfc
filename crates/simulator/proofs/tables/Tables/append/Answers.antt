use Rattle.std.proofs.Common.{◌<◌, ◌∙◌, sym, subst, length, arith}
use Rattle.package_record.specs.Build.{IsBuild}
use Rattle.simulator.proofs.Entering.{grown_on, path_entered}
use Rattle.simulator.specs.inside.Tables.{list_in}
use Rattle.simulator.proofs.tables.Tables.append.Goals as goal

pub loop-package-preserved : goal.loop-package-preserved
loop-package-preserved c =
    let build = c.packages-packages.result.now in
    let i = c.loop-package.package-index in
    let r = c.package-item.result in
    let before = c.loop-package.self in
    let after = c.append_package.new.self in
    let is = subst IsBuild (sym c.packages-packages.ensures.records) c.unit_path-unit.ensures.build in
    let within : i < length build = omega arith in
    let both = path_entered (list_in c.args.self.now) build is
    (sym c.has_any.ensures ∙ c.if-has_any.false) i r within c.package-item.is
    before.listed.keys after.listed.keys (list_in before) (list_in after)
    c.loop-package.invariant.listed c.loop-package.invariant.list
    c.in_ok-append_package.ensures.listed c.in_ok-append_package.ensures.ok in
    record {
      listed = both.0;
      list = both.1;
      grown = grown_on c.args.self.now before after c.loop-package.invariant.grown
          c.append_package.ensures.grown;
      sent = c.append_package.ensures.sent ∙ c.loop-package.invariant.sent;
    }
