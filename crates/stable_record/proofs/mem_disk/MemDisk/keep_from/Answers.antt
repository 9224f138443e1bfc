use Rattle.std.proofs.Common.{◌≡◌, ◌∙◌, ◌++◌, ◌-◌, ◌<◌, arith, drop, take, length, rules, vec_len}
use Rattle.stable_record.proofs.Kept.{kept_from}
use Rattle.stable_record.proofs.mem_disk.MemDisk.keep_from.Goals as goal

pub invariant_of-self-clause-before_is : goal.invariant_of-self-clause-before_is
invariant_of-self-clause-before_is c =
    let self = c.args.self.now in
    let grows : c.extend_from_slice.new.self.items ≡ self.before.items ++ take (self.unchanged - c.args.place) (drop c.args.place self.file.items) = search rules in
    let lt : c.args.place < self.unchanged = search rules in
    let grown = c.extend_from_slice.new.self in
    let sized : vec_len grown ≡ length grown.items = omega arith in
    kept_from c.args.place self.unchanged (vec_len grown) self.file.items self.before.items grown.items c.rotate_right.new.self.items lt self.within grows sized c.rotate_right.ensures.items ∙ self.before_is
