use Rattle.std.proofs.Common.{length}
use Rattle.package_record.specs.inside.Cursor.{cursor_view}
use Rattle.package_record.specs.Reading.{all_at, run_at}
use Rattle.package_record.proofs.Many.{Fueled}
use Rattle.package_record.proofs.header.run_lines.Given as goal

abbrev pub invariant-lines : goal.invariant-lines
invariant-lines l = Fueled run_at l.paths.items (cursor_view l.place) (all_at run_at (cursor_view l.start))

abbrev pub decreases-lines : goal.decreases-lines
decreases-lines l = length (cursor_view l.place).lines
