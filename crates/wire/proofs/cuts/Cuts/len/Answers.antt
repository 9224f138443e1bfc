use Rattle.std.proofs.Common.{arith}
use Rattle.std.proofs.lemmas.List.{length-append}
use Rattle.wire.proofs.CutTexts.{full_length, joined}
use Rattle.wire.proofs.cuts.Cuts.len.Goals as goal

pub overflow_mul-result : goal.overflow_mul-result
overflow_mul-result c =
    let full = c.args.self.now.full.items in
    omega (arith, c.requires.few, c.len.ensures, length-append (joined full) c.args.self.now.last.items, full_length full c.requires.cut.0)

pub overflow_add-result : goal.overflow_add-result
overflow_add-result c =
    let full = c.args.self.now.full.items in
    omega (arith, c.requires.few, c.len.ensures, c.len-2.ensures, length-append (joined full) c.args.self.now.last.items, full_length full c.requires.cut.0)

pub returns : goal.returns
returns c =
    let full = c.args.self.now.full.items in
    omega (arith, c.len.ensures, c.len-2.ensures, length-append (joined full) c.args.self.now.last.items, full_length full c.requires.cut.0)
