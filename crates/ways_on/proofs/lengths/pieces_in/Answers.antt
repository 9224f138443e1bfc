use Rattle.std.proofs.Common.{length, sym, arith}
use Rattle.std.proofs.lemmas.Grind.{div_ceil_times}
use Rattle.package_record.specs.Build.{build_text}
use Rattle.ways_on.proofs.PieceCounts.{same_count}
use Rattle.ways_on.proofs.lengths.pieces_in.Goals as goal

pub returns-clause-count : goal.returns-clause-count
returns-clause-count c =
    let size = length (build_text c.args.build.now) in
    let times = div_ceil_times c.in_ok-len.len 32768 (omega arith) in
    sym (same_count size c.div_ceil.result
    (omega (arith, c.in_ok-len.ensures.len, c.in_ok-len.ensures.few))
    (omega (arith, times.0, c.div_ceil.ensures, c.in_ok-len.ensures.len))
    (omega (arith, times.1, c.div_ceil.ensures, c.in_ok-len.ensures.len)))
