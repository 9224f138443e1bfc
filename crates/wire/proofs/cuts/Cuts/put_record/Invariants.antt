use Rattle.std.proofs.Common.{◌≡◌, ◌++◌, flat_map, map, take}
use Rattle.package_record.specs.FileView.{file_view}
use Rattle.wire.specs.inside.Cuts.{IsCut, text_in}
use Rattle.wire.proofs.cuts.Cuts.put_record.Given as goal

abbrev pub invariant-loop-file : goal.invariant-loop-file
invariant-loop-file l = record {
  cut : IsCut l.self;
  text : text_in l.self ≡ text_in l.initial.self ++ flat_map (λ f. f.bytes) (map file_view (take l.file-index l.file-items));
}
