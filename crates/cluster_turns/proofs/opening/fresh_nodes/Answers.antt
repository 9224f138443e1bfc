use Rattle.std.proofs.Common.{◌≡◌, Some, ap, arith, length, refl, rules, slice_get, ◌∙◌}
use Rattle.std.proofs.lemmas.Iterator.Adapters.{YieldsList-from_vec}
use Rattle.std.proofs.lemmas.Iterator.Consumers.{YieldsList-turn}
use Rattle.std.proofs.lemmas.List.{length_push}
use Rattle.std.proofs.lemmas.Option.{slice_get_read}
use Rattle.std.proofs.lemmas.Result.{err_from_is_err_and}
use Rattle.cluster_turns.proofs.Disks.{fails_at, one_more}
use Rattle.cluster_turns.proofs.opening.fresh_nodes.Goals as goal

pub returns-in_err-fresh_node-clause-refused : goal.returns-in_err-fresh_node-clause-refused
returns-in_err-fresh_node-clause-refused g c =
    let disks = c.args.disks.items in
    let ys = c.loop-disk.yielded in
    let disk = c.in-Some.disk in
    let yields = YieldsList-from_vec {s = c.into_iter-disk-iterator.result} disks (search rules) (search rules) in
    let turn = YieldsList-turn yields ys c.loop-disk.disk-iterator c.loop-disk.yielded_by c.next.result c.next.new.self disk c.in-Some.is c.next.ensures.steps in
    let here : slice_get disks c.loop-disk.me ≡ Some disk =
    ap (slice_get disks) c.loop-disk.invariant.number
    ∙ slice_get_read disks (length disks) (length ys) disk refl turn.0 turn.1 in
    let fails = fails_at g.D.Disk c.args.tree.now
    c.args.weights.now disks c.loop-disk.nodes.items c.loop-disk.invariant.fresh c.loop-disk.me
    (omega (arith, c.loop-disk.invariant.number, c.loop-disk.invariant.count)) disk here
    c.in_err-fresh_node.field-0.0 c.in_err-fresh_node.ensures.refused in
    let told = err_from_is_err_and c.from_residual-in_err-fresh_node.result
    c.from_residual-in_err-fresh_node.ensures.1 in
    rw (told.1, told.2) fails

pub loop-disk-preserved : goal.loop-disk-preserved
loop-disk-preserved g c =
    let disks = c.args.disks.items in
    let ys = c.loop-disk.yielded in
    let disk = c.in-Some.disk in
    let n = c.in_ok-fresh_node.field-0 in
    let yields = YieldsList-from_vec {s = c.into_iter-disk-iterator.result} disks (search rules) (search rules) in
    let turn = YieldsList-turn yields ys c.loop-disk.disk-iterator c.loop-disk.yielded_by c.next.result c.next.new.self disk c.in-Some.is c.next.ensures.steps in
    let more = c.in_ok-push.ensures.items in
    let here : slice_get disks c.loop-disk.me ≡ Some disk =
    ap (slice_get disks) c.loop-disk.invariant.number
    ∙ slice_get_read disks (length disks) (length ys) disk refl turn.0 turn.1 in
    record {
      count = omega (
        arith,
        c.loop-disk.invariant.count,
        ap length more,
        length_push c.loop-disk.nodes.items n,
        length_push ys disk,
      );
      number = omega (arith, c.loop-disk.invariant.number, length_push ys disk);
      fresh = one_more g.D.Disk c.args.tree.now c.args.weights.now disks
          c.loop-disk.nodes.items c.loop-disk.invariant.fresh c.loop-disk.me
          (omega (arith, c.loop-disk.invariant.number, c.loop-disk.invariant.count)) disk here n
          c.in_ok-fresh_node.ensures.node c.push.new.self.items more;
    }
