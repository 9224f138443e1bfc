use Rattle.std.proofs.Common.{rules, ◌≡◌, length, take, drop, arith, ap, ◌∙◌}
use Rattle.std.specs.Int.{from_be_bytes, w32}
use Rattle.std.proofs.Math.Facts.{Fits-lt-pow}
use Rattle.stable_record.proofs.Entries.{whole_entry}
use Rattle.stable_record.proofs.reading.at_gate.Goals as goal

pub returns : goal.returns
returns c =
    let behind = c.in-Some.behind.now in
    let note = c.split_at.result.0.now in
    let n = c.from_be_bytes-len.result in
    let size : length note ≡ n = omega arith in
    let tail : c.in-Some-split_first_chunk.behind.now ≡ drop 4 behind = c.in-Some-split_first_chunk.ensures.cases.1 in (
      whole_entry c.args.file.now behind note c.split_at.result.1.now c.in-Some.gate.now n c.in-Some.ensures.cases.0 c.if-gate-ne-OPEN.false (omega (arith, c.in-Some-split_first_chunk.ensures.cases))
          (λ i. Fits-lt-pow (c.type_inv.file i)) (c.from_be_bytes-len.ensures ∙ ap (from_be_bytes w32) c.in-Some-split_first_chunk.ensures.cases.0) size
          (c.split_at.ensures.front ∙ ap (take n) tail) (c.split_at.ensures.back ∙ ap (drop n) tail),
      omega arith,
    )

pub returns-then-behind-len : goal.returns-then-behind-len
returns-then-behind-len c = search rules
