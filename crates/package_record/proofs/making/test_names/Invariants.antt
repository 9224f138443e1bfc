use Rattle.std.proofs.Common.{◌≡◌, ◌<◌, ℕ, [], true, map, take}
use Rattle.std.specs.List.{slice_index_or}
use Rattle.package_record.specs.Content.{is_next_name, names_of}
use Rattle.package_record.specs.FileView.{file_view}
use Rattle.package_record.specs.inside.Names.{names_in}
use Rattle.package_record.proofs.making.test_names.Given as goal

abbrev pub invariant-loop-index : goal.invariant-loop-index
invariant-loop-index l = record {
  entered : names_in l.names ≡ take l.index (names_of (map file_view l.files));
  good : (k : ℕ) → k < l.index → is_next_name (take k (names_of (map file_view l.files))) (slice_index_or (names_of (map file_view l.files)) k []) ≡ true;
}
