use Rattle.std.proofs.Common.{inl, refl}
use Rattle.std.proofs.lemmas.Result.{err_from_is_err_and}
use Rattle.traces.specs.Faults.{trace_view}
use Rattle.dpbr_wayon.proofs.Refusing.{builds_refused, path_refused, taken_refused}
use Rattle.dpbr_wayon.proofs.files.wayon_in_files.Goals as goal

pub returns-in_err-trace-clause-refused : goal.returns-in_err-trace-clause-refused
returns-in_err-trace-clause-refused g c =
    let p = err_from_is_err_and c.from_residual.result c.from_residual.ensures.1 in
    rw (p.1, p.2) (inl c.in_err-trace.ensures.refused)

pub returns-in_err-path-clause-refused : goal.returns-in_err-path-clause-refused
returns-in_err-path-clause-refused g c =
    let p = err_from_is_err_and c.from_residual-in_err-path.result c.from_residual-in_err-path.ensures.1 in
    let target = c.args.target.now in
    rw (p.1, p.2) (path_refused (g.T.NamedTexts.gave c.args.texts.now) c.args.trace.now c.args.builds.now c.args.tree.now target.node target.path.now target.host _
    (trace_view c.in_ok-trace.trace) c.in_ok-trace.ensures.ok c.in_err-path.ensures.refused)

pub returns-in_err-builds-clause-refused : goal.returns-in_err-builds-clause-refused
returns-in_err-builds-clause-refused g c =
    let p = err_from_is_err_and c.from_residual-in_err-builds.result c.from_residual-in_err-builds.ensures.1 in
    let target = c.args.target.now in
    rw (p.1, p.2) (builds_refused (g.T.NamedTexts.gave c.args.texts.now) c.args.trace.now c.args.builds.now c.args.tree.now target.node target.path.now target.host _
    (trace_view c.in_ok-trace.trace) c.in_ok-trace.ensures.ok c.in_ok-path.path c.in_ok-path.ensures.ok c.in_err-builds.ensures.refused)

pub returns-in_err-text-clause-refused : goal.returns-in_err-text-clause-refused
returns-in_err-text-clause-refused g c =
    let p = err_from_is_err_and c.from_residual-in_err-text.result c.from_residual-in_err-text.ensures.1 in
    let target = c.args.target.now in
    rw (p.1, p.2) (taken_refused (g.T.NamedTexts.gave c.args.texts.now) c.args.trace.now c.args.builds.now c.args.tree.now target.node target.path.now target.host _
    (trace_view c.in_ok-trace.trace) c.in_ok-trace.ensures.ok c.in_ok-path.path c.in_ok-path.ensures.ok
    c.in_ok-builds.builds c.in_ok-builds.ensures.ok c.in_err-text.ensures.refused)

pub returns-clause-ok : goal.returns-clause-ok
returns-clause-ok g c =
    let spelled = c.in_ok-trace.ensures.ok in
    let given = c.in_ok-builds.ensures.ok in (
      refl,
      record {
        trace = spelled.0;
        from_trace = spelled.1;
        builds = given.0;
        from_builds = given.1;
        is_way_on = record {
          read = trace_view c.in_ok-trace.trace;
          is_trace = spelled.2;
          named = c.in_ok-path.path;
          is_path = c.in_ok-path.ensures.ok;
          given = c.in_ok-builds.builds;
          are_builds = given.2;
          after = c.in_ok-text.ensures.ok;
        };
      },
    )
