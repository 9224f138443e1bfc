use Rattle.std.proofs.Common.{◌<◌, ◌^◌, ℕ, arith, sym, ◌∙◌, get_or}
use Rattle.std.proofs.lemmas.Bool.{cond-true, cond-false}
use Rattle.std.proofs.Math.Facts.{Fits-lt-pow}
use Rattle.claims.specs.Quorums.{named_in}
use Rattle.claims.proofs.Weights.{sum-take_more, weight-take_more}
use Rattle.claims.proofs.quorum.is_majority.Goals as goal
use Rattle.claims.proofs.quorum.is_majority.Goals.{then-contains, else-contains}

pub loop-member-preserved : goal.loop-member-preserved
loop-member-preserved c =
    let k : ℕ = c.loop-member.member in
    let all = sum-take_more c.args.weights.now k c.loop-member-test.true in
    let part = weight-take_more c.args.weights.now (named_in c.args.members.now) k c.loop-member-test.true in
    let so_far = c.loop-member.invariant in
    let read = c.from-weight.ensures in
    let byte : get_or c.args.weights.now k 0 < 2 ^ 8 = Fits-lt-pow (c.type_inv.weights k) in
    elim c.if-contains.branch [
      | then-contains w ↦
          let named = cond-true (named_in c.args.members.now k) (get_or c.args.weights.now k 0) 0 (sym c.contains.ensures.value ∙ w.if-contains.true) in
          record {
            total = omega (arith, all, so_far.total, read);
            part = omega (arith, part, named, so_far.part, read, w.named-is);
            small = omega (arith, so_far.small, read, byte);
            within = omega (arith, so_far.within, w.named-is);
          }
      | else-contains w ↦
          let unnamed = cond-false (named_in c.args.members.now k) (get_or c.args.weights.now k 0) 0 (sym c.contains.ensures.value ∙ w.if-contains.false) in
          record {
            total = omega (arith, all, so_far.total, read);
            part = omega (arith, part, unnamed, so_far.part, w.named-is);
            small = omega (arith, so_far.small, read, byte);
            within = omega (arith, so_far.within, w.named-is);
          }
    ]
