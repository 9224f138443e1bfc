use Rattle.std.proofs.Common.{◌≡◌, ◌∷◌, [], ◌++◌, ap, length, map, arith}
use Rattle.std.proofs.lemmas.List.{map_push}
use Rattle.std.proofs.lemmas.List.Sums.{sum_by-append}
use Rattle.std.proofs.lemmas.Result.{err_from_is_err_and}
use Rattle.package_record.specs.inside.Cursor.{cursor_view}
use Rattle.package_record.specs.inside.Heads.{head_of}
use Rattle.package_record.specs.Reading.{all_at, file_at}
use Rattle.package_record.proofs.Cuts.{some_line}
use Rattle.package_record.proofs.Many.{fueled_end, fueled_fails, fueled_more}
use Rattle.package_record.proofs.Taken.{entry_taken}
use Rattle.package_record.proofs.header.file_lines.Goals as goal

pub returns-in_err-next-clause-heads : goal.returns-in_err-next-clause-heads
returns-in_err-next-clause-heads c =
    let p = err_from_is_err_and c.from_residual.result c.from_residual.ensures.1 in
    rw (p.1, p.2) (fueled_fails file_at (map head_of c.files.heads.items) (cursor_view c.files.place) (all_at file_at (cursor_view c.args.start)) c.in_err-next.field-0.0 c.files.invariant.read (some_line 10 c.files.place.rest.now)
    (rw (c.files.invariant.names, c.files.invariant.total) at c.in_err-next.ensures.entry))

pub returns-in_default-clause-heads : goal.returns-in_default-clause-heads
returns-in_default-clause-heads c =
    fueled_end file_at (map head_of c.files.heads.items) (cursor_view c.files.place) (all_at file_at (cursor_view c.args.start)) c.files.invariant.read (some_line 10 c.files.place.rest.now) (cursor_view c.in_ok-next.after)
    (rw (c.files.invariant.names, c.files.invariant.total, c.in_default.is) at c.in_ok-next.ensures.entry)

pub files-smaller : goal.files-smaller
files-smaller c =
    let read = rw c.in-Some.is at c.in_ok-next.ensures.entry in
    let taken = entry_taken _ _ (cursor_view c.files.place) (head_of c.in-Some.head) (cursor_view c.in_ok-next.after) read in
    omega (arith, ap length taken.0)

pub files-preserved : goal.files-preserved
files-preserved c =
    let read = rw (c.files.invariant.names, c.files.invariant.total, c.in-Some.is) at c.in_ok-next.ensures.entry in
    let taken = entry_taken _ _ (cursor_view c.files.place) (head_of c.in-Some.head) (cursor_view c.in_ok-next.after) read in
    let heads = map head_of c.files.heads.items in
    let e : map head_of c.push.new.self.items ≡ heads ++ head_of c.in-Some.head ∷ [] = rw c.in_ok-push.ensures.items (map_push head_of c.files.heads.items c.in-Some.head) in
    record {
      read = rw e (fueled_more file_at heads (cursor_view c.files.place) (all_at file_at (cursor_view c.args.start)) c.files.invariant.read (head_of c.in-Some.head) (cursor_view c.in_ok-next.after) read (omega (arith, ap length taken.0)));
      names = rw (e, map_push (λ h. h.name) heads (head_of c.in-Some.head), ← c.files.invariant.names) (rw c.in-Some.is at c.in_ok-next.ensures.entered);
      total = rw (e, sum_by-append (λ h. h.size) heads (head_of c.in-Some.head ∷ []), ← c.files.invariant.total) (omega arith);
      within = rw c.in-Some.is at c.in_ok-next.ensures.within;
    }
