use Rattle.std.proofs.Common.{refl}
use Rattle.std.proofs.lemmas.List.Splits.{join_with_byte-slice_split}
use Rattle.package_record.specs.Reading.{header_of}
use Rattle.package_record.proofs.header.read_header.Goals as goal

pub returns-clause-header : goal.returns-clause-header
unfolding header_of
returns-clause-header c =
    rw (c.in_ok-front.ensures, c.in_ok-built.ensures, c.in_ok-run.ensures, c.in_ok-heads.ensures.heads, join_with_byte-slice_split 10 c.in_ok-heads.place.rest.now) refl
