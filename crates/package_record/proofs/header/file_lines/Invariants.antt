use Rattle.std.proofs.Common.{◌≡◌, ◌≤◌, length, map}
use Rattle.std.specs.List.{sum_by}
use Rattle.package_record.specs.Content.{most_bytes}
use Rattle.package_record.specs.inside.Cursor.{cursor_view}
use Rattle.package_record.specs.inside.Heads.{head_of}
use Rattle.package_record.specs.inside.Names.{names_in}
use Rattle.package_record.specs.Reading.{all_at, file_at}
use Rattle.package_record.proofs.Many.{Fueled}
use Rattle.package_record.proofs.header.file_lines.Given as goal

abbrev pub invariant-files : goal.invariant-files
invariant-files l = record {
  read : Fueled file_at (map head_of l.heads.items) (cursor_view l.place) (all_at file_at (cursor_view l.start));
  names : names_in l.names ≡ map (λ h. h.name) (map head_of l.heads.items);
  total : l.total ≡ sum_by (λ h. h.size) (map head_of l.heads.items);
  within : l.total ≤ most_bytes;
}

abbrev pub decreases-files : goal.decreases-files
decreases-files l = length (cursor_view l.place).lines
