use Rattle.std.proofs.Common.{◌≡◌, length, drop, vec_capacity}
use Rattle.stable_record.specs.Memory.{filled}
use Rattle.stable_record.proofs.mem_disk.fill.Given as goal

abbrev pub invariant-loop-range : goal.invariant-loop-range
invariant-loop-range l = record {
  rest : filled l.byte (drop l.range-index l.ranges) l.file.items ≡ filled l.byte l.ranges l.initial.file.items;
  len : length l.file.items ≡ length l.initial.file.items;
  capacity : vec_capacity l.file ≡ vec_capacity l.initial.file;
}
