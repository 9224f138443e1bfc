use Rattle.std.proofs.Common.{◌<◌, ◌∙◌, arith, length, rules}
use Rattle.std.proofs.lemmas.List.{length-set}
use Rattle.std.proofs.lemmas.List.Edits.{map_over_more}
use Rattle.dpbn_node.specs.Repeats.{once_more}
use Rattle.dpbn_node.proofs.repeats.Repeats.count.Goals as goal

pub loop-place-preserved : goal.loop-place-preserved
loop-place-preserved c =
    let in_known : c.loop-place.place < length c.args.self.now.known.items = omega arith in
    record {
      many = length-set _ _ _ ∙ c.loop-place.invariant.many;
      so_far = rw c.counted.ensures (map_over_more (once_more c.args.number) c.args.self.now.known.items
          c.loop-place.self.known.items c.loop-place.place c.index.result.now in_known
          c.loop-place.invariant.so_far (search rules));
    }
