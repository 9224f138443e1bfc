use Rattle.std.proofs.Common.{◌≡◌, ◌≤◌, All, length}
use Rattle.package_record.specs.Build.{records_text}
use Rattle.package_record.specs.Content.{IsRecord, most_bytes}
use Rattle.package_record.specs.Packages.{contents_of}
use Rattle.package_record.proofs.gathering.gather.Given as goal

abbrev pub invariant-loop-package : goal.invariant-loop-package
invariant-loop-package l = record {
  records : l.records.items ≡ contents_of l.host l.claim l.built l.yielded;
  good : All IsRecord l.records.items;
  bytes : l.bytes ≡ length (records_text l.records.items);
  within : l.bytes ≤ most_bytes;
}
