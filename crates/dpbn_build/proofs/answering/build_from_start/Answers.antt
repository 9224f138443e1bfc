use Rattle.std.proofs.lemmas.Result.{IfOk-weaker, IfErr-weaker, err_from_is_err_and}
use Rattle.dpbn_build.proofs.Logs.{disk_refused, log_refused, on_disk, still_begun, still_unnoted, work_refused}
use Rattle.dpbn_node.specs.Runs.{run_at}
use Rattle.dpbn_build.proofs.answering.build_from_start.Goals as goal

pub returns-in_err-is_noted-clause-refused : goal.returns-in_err-is_noted-clause-refused
returns-in_err-is_noted-clause-refused g c =
    let p = err_from_is_err_and c.from_residual-in_err-is_noted.result
    c.from_residual-in_err-is_noted.ensures.1 in
    rw (p.1, p.2) (disk_refused (g.F.LogFolder.had_mode c.args.folder.now)
    (g.F.LogFolder.gave c.args.folder.now c.args.me)
    (g.F.LogFolder.known c.args.folder.now c.args.me)
    (run_at c.args.tree.now c.args.weights.now c.args.place) c.args.me _
    c.in_err-is_noted.ensures.refused)

pub returns-in_err-office-clause-refused : goal.returns-in_err-office-clause-refused
returns-in_err-office-clause-refused g c =
    let p = err_from_is_err_and c.from_residual-in_err-office.result
    c.from_residual-in_err-office.ensures.1 in
    let gave = g.F.LogFolder.gave c.args.folder.now c.args.me in
    let known = g.F.LogFolder.known c.args.folder.now c.args.me in
    let of = run_at c.args.tree.now c.args.weights.now c.args.place in
    let begun = c.in_ok-begun.begun in
    let disk = c.has_notes.new.disk in
    let looked = c.in_ok-is_noted.ensures in
    rw (p.1, p.2) (work_refused (g.F.LogFolder.had_mode c.args.folder.now) gave known of c.args.me _
    c.in_ok-is_noted.is_noted c.in_err-office.ensures
    (λ none. still_unnoted gave known of c.args.me begun disk c.identity_of.result
    (still_begun gave known of c.args.me begun disk looked.kept looked.same
    c.in_ok-begun.ensures.begun) c.identity_of.ensures (looked.lacks none)))

pub returns-clause-member : goal.returns-clause-member
returns-clause-member g c =
    IfOk-weaker c.build_on_log.result _ _ (λ solo built. c.in_ok-begun.ensures.member)
    c.build_on_log.ensures.built

pub returns-clause-built : goal.returns-clause-built
returns-clause-built g c =
    let gave = g.F.LogFolder.gave c.args.folder.now c.args.me in
    let known = g.F.LogFolder.known c.args.folder.now c.args.me in
    let of = run_at c.args.tree.now c.args.weights.now c.args.place in
    let begun = c.in_ok-begun.begun in
    let disk = c.has_notes.new.disk in
    let looked = c.in_ok-is_noted.ensures in
    IfOk-weaker c.build_on_log.result _ _
    (λ solo built. record {
      begun = on_disk begun disk;
      has_begun = still_begun gave known of c.args.me begun disk looked.kept looked.same
          c.in_ok-begun.ensures.begun;
      opened = built;
    }) c.build_on_log.ensures.built

pub returns-clause-refused : goal.returns-clause-refused
returns-clause-refused g c =
    IfErr-weaker c.build_on_log.result _ _
    (λ r why. log_refused (g.F.LogFolder.had_mode c.args.folder.now)
    (g.F.LogFolder.gave c.args.folder.now c.args.me)
    (g.F.LogFolder.known c.args.folder.now c.args.me)
    (run_at c.args.tree.now c.args.weights.now c.args.place) c.args.me r why)
    c.build_on_log.ensures.refused
