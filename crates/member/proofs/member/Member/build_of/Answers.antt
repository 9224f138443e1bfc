use Rattle.std.proofs.Common.{◌≡◌, ◌∙◌, Err, ap, arith, inl, inr, subst, sym}
use Rattle.claims.specs.Claim.{IsClaim}
use Rattle.claims.specs.Deps.{is_ascending}
use Rattle.claims.specs.Job.{Task}
use Rattle.package_record.specs.Packages.{contents_of}
use Rattle.engine.specs.Division.{unit_at}
use Rattle.engine.proofs.Kept.{unit_some}
use Rattle.protocol.specs.Jobs.{build_by}
use Rattle.protocol.proofs.PackageOrder.{few_packages, grouped, paths_ascend}
use Rattle.member.specs.inside.Packages.{files_at}
use Rattle.member.proofs.MadeBuild.{as_many, build_made, build_refused, one_group}
use Rattle.member.proofs.MadeBuild.{paths_made, records_made, runs_ascend}
use Rattle.member.proofs.member.Member.build_of.Goals as goal

pub make-requires-clause-claim : goal.make-requires-clause-claim
make-requires-clause-claim c =
    subst IsClaim (ap (λ (x : Task). x.claim) (sym c.job.view_is)) c.requires.claim

pub make-requires-clause-run : goal.make-requires-clause-run
make-requires-clause-run c =
    let d = c.args.self.now.division in
    runs_ascend d.tree (files_at c.args.packages) c.in_ok-packages.packages.items
    (unit_at d c.args.unit).packages c.in_ok-packages.ensures.made.1

pub make-requires-clause-some : goal.make-requires-clause-some
make-requires-clause-some c =
    let d = c.args.self.now.division in
    omega (
      arith,
      as_many d.tree (files_at c.args.packages) c.in_ok-packages.packages.items
          (unit_at d c.args.unit).packages c.in_ok-packages.ensures.made.1,
      unit_some d c.args.unit c.packages_of.ensures.member.division c.requires.unit,
    )

pub make-requires-clause-few : goal.make-requires-clause-few
make-requires-clause-few c =
    let d = c.args.self.now.division in
    let is = c.packages_of.ensures.member.division in
    omega (
      arith,
      as_many d.tree (files_at c.args.packages) c.in_ok-packages.packages.items
          (unit_at d c.args.unit).packages c.in_ok-packages.ensures.made.1,
      few_packages d c.args.unit is c.requires.unit,
      is.tree.few,
    )

pub make-requires-clause-paths : goal.make-requires-clause-paths
make-requires-clause-paths c =
    let d = c.args.self.now.division in
    ap is_ascending (paths_made d.tree (files_at c.args.packages) c.in_ok-packages.packages.items
    (unit_at d c.args.unit).packages c.in_ok-packages.ensures.made.1)
    ∙ paths_ascend d c.args.unit c.packages_of.ensures.member.division c.requires.unit

pub make-requires-clause-group : goal.make-requires-clause-group
make-requires-clause-group c =
    let d = c.args.self.now.division in
    one_group d.tree (files_at c.args.packages) c.in_ok-packages.packages.items
    (unit_at d c.args.unit).packages c.in_ok-packages.ensures.made.1
    (grouped d c.args.unit c.packages_of.ensures.member.division c.requires.unit)

pub returns-in-Ok : goal.returns-in-Ok
returns-in-Ok c =
    let s = c.args.self.now in
    let u = c.args.unit in
    let job = c.args.job.now in
    let given = c.args.packages in
    let deps = c.in_ok-built.ensures ∙ c.deps.ensures.deps in
    let ps = c.in_ok-packages.packages.items in
    let cs = contents_of c.job.inside.host c.job.inside.claim c.in_ok-built.built ps in
    let is : cs ≡ build_by s u job given =
    (λ i. contents_of (c.job.view_is i).host (c.job.view_is i).claim (deps i) ps)
    ∙ records_made s u job given ps c.in_ok-packages.ensures.made.1 in
    build_made s u job given cs c.in-Ok.build c.in_ok-packages.ensures.made.0 is c.in-Ok.ensures

pub returns-in-Err : goal.returns-in-Err
returns-in-Err c =
    let s = c.args.self.now in
    let u = c.args.unit in
    let job = c.args.job.now in
    let given = c.args.packages in
    let deps = c.in_ok-built.ensures ∙ c.deps.ensures.deps in
    let ps = c.in_ok-packages.packages.items in
    let cs = contents_of c.job.inside.host c.job.inside.claim c.in_ok-built.built ps in
    let is : cs ≡ build_by s u job given =
    (λ i. contents_of (c.job.view_is i).host (c.job.view_is i).claim (deps i) ps)
    ∙ records_made s u job given ps c.in_ok-packages.ensures.made.1 in
    elim c.refusal_of.ensures [
      | inl ran_out ↦ inl ran_out.1
      | inr refused ↦ elim c.in-Err.ensures [
        | inl memory ↦ absurd (refused.0 memory)
        | inr fault ↦
            inr (build_refused s u job given cs c.in-Err.fault
            c.in_ok-packages.ensures.made.0 is fault
            ∙ ap (λ e. Err e) (sym refused.1))
      ]
    ]
