use Rattle.std.proofs.Common.{◌≡◌, ◌≤◌, [], length, map, drop}
use Rattle.std.specs.List.{sum_by}
use Rattle.package_record.specs.inside.Heads.{head_of}
use Rattle.package_record.specs.Reading.{files_in}
use Rattle.package_record.proofs.parsing.files.Given as goal

abbrev pub invariant-loop-head : goal.invariant-loop-head
invariant-loop-head l = record {
  read : files_in l.files (drop l.head-index (map head_of l.heads)) l.rest ≡ files_in [] (map head_of l.heads) l.fn.bytes;
  enough : sum_by (λ h. h.size) (drop l.head-index (map head_of l.heads)) ≤ length l.rest;
}
