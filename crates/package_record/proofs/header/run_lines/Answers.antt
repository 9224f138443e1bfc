use Rattle.std.proofs.Common.{ap, length, arith}
use Rattle.std.proofs.lemmas.Result.{err_from_is_err_and}
use Rattle.package_record.specs.inside.Cursor.{cursor_view}
use Rattle.package_record.specs.Reading.{all_at, run_at}
use Rattle.package_record.proofs.Cuts.{some_line}
use Rattle.package_record.proofs.Many.{fueled_end, fueled_fails, fueled_more, fueled_start}
use Rattle.package_record.proofs.Taken.{run_taken}
use Rattle.package_record.proofs.header.run_lines.Goals as goal

pub returns-in_err-next : goal.returns-in_err-next
returns-in_err-next c =
    let p = err_from_is_err_and c.from_residual.result c.from_residual.ensures.1 in
    rw (p.1, p.2) (fueled_fails run_at c.lines.paths.items (cursor_view c.lines.place) (all_at run_at (cursor_view c.args.start)) c.in_err-next.field-0.0 c.lines.invariant (some_line 10 c.lines.place.rest.now)
    (rw c.as_slice.ensures.value at c.in_err-next.ensures))

pub returns-in_default : goal.returns-in_default
returns-in_default c =
    fueled_end run_at c.lines.paths.items (cursor_view c.lines.place) (all_at run_at (cursor_view c.args.start)) c.lines.invariant (some_line 10 c.lines.place.rest.now) (cursor_view c.in_ok-next.after)
    (rw (c.as_slice.ensures.value, c.in_default.is) at c.in_ok-next.ensures)

pub lines-smaller : goal.lines-smaller
lines-smaller c =
    let read = rw (c.as_slice.ensures.value, c.in-Some.is) at c.in_ok-next.ensures in
    let taken = run_taken c.lines.paths.items (cursor_view c.lines.place) c.in-Some.path (cursor_view c.in_ok-next.after) read in
    omega (arith, ap length taken.0)

pub lines-preserved : goal.lines-preserved
lines-preserved c =
    let read = rw (c.as_slice.ensures.value, c.in-Some.is) at c.in_ok-next.ensures in
    let taken = run_taken c.lines.paths.items (cursor_view c.lines.place) c.in-Some.path (cursor_view c.in_ok-next.after) read in
    rw c.in_ok-push.ensures.items (fueled_more run_at c.lines.paths.items (cursor_view c.lines.place) (all_at run_at (cursor_view c.args.start)) c.lines.invariant c.in-Some.path (cursor_view c.in_ok-next.after) read (omega (arith, ap length taken.0)))

pub lines-init : goal.lines-init
lines-init c = rw c.new-paths.ensures.items (fueled_start run_at (cursor_view c.args.start))
