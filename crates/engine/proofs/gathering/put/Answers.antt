use Rattle.std.proofs.Common.{◌≡◌, ◌<◌, ◌∙◌, ap, length, arith}
use Rattle.engine.proofs.OneMore.{put_behind, put_inside}
use Rattle.engine.specs.inside.Gathering.{lists_of}
use Rattle.engine.proofs.gathering.put.Goals as goal

pub returns-in_ok-push : goal.returns-in_ok-push
returns-in_ok-push c =
    let items = c.args.packages.now.items in
    let last : c.args.number ≡ length items = omega arith in
    ap lists_of c.in_ok-push.ensures.items ∙ put_behind items c.in_ok-vec.field-0 c.args.number c.args.position last c.in_ok-vec.ensures.items

pub returns-in_ok-push-2 : goal.returns-in_ok-push-2
returns-in_ok-push-2 c =
    let items = c.args.packages.now.items in
    let within : c.args.number < length items = omega (arith, c.requires) in
    put_inside items c.index_mut.result.now c.push-else-number-len.new.self c.args.number c.args.position within c.index_mut.ensures.value c.in_ok-push-2.ensures.items
