use Rattle.std.proofs.Common.{◌≡◌, ◌++◌, length, take}
use Rattle.package_record.specs.Build.{lines_before, records_text}
use Rattle.wire.specs.inside.Cuts.{IsCut, text_in}
use Rattle.wire.proofs.cuts.Cuts.of.Given as goal

abbrev pub invariant-loop-record : goal.invariant-loop-record
invariant-loop-record l = record {
  cut : IsCut l.cuts;
  text : text_in l.cuts ≡ lines_before (length l.fn.build) ++ records_text (take l.record-index l.fn.build);
}
