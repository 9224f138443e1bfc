use Rattle.std.proofs.Common.{◌+◌, ◌++◌, [], ◌∷◌, List, suc, ap, get_or, map, take, sym, ◌∙◌, append_assoc, arith}
use Rattle.std.proofs.lemmas.List.{take_more}
use Rattle.protocol.specs.Events.{Deliver, Event, event_view}
use Rattle.ways_on.specs.inside.Listed.{asks_from, behind_promises, deliveries, promised_in}
use Rattle.ways_on.proofs.Writing.{one_more_asked, one_more_behind}
use Rattle.ways_on.proofs.route.ask.Goals as goal

pub loop-other-preserved : goal.loop-other-preserved
loop-other-preserved c =
    let w = c.args.world.now.world in
    let i = c.loop-other.other-index in
    let asked = c.args.asked.now in
    let k = get_or asked i 0 in
    let me = c.args.node in
    let offer = c.args.offer in
    let next = c.loop-other.next in
    let promised = c.in_ok-promised.promised in
    let before = map event_view c.args.events.now.items in
    let most = c.in_ok-promised.ensures.few in
    let so_few = c.loop-other.invariant.small in
    let more = take_more asked i 0 c.loop-other-test.true in
    record {
      events = λ u cl named own.
          let so_far = asks_from w u cl offer (suc offer) (take i asked) in
          let behind = behind_promises w u cl (suc offer) (take i asked) in
          c.in_ok-deliver-2.ensures
          ∙ ap (λ (l : List Event). l ++ deliveries next promised me) (c.in_ok-deliver.ensures
          ∙ ap (λ (l : List Event). l ++ Deliver offer k ∷ [])
          (c.loop-other.invariant.events u cl named own))
          ∙ append_assoc (before ++ so_far) (Deliver offer k ∷ []) (deliveries next promised me)
          ∙ append_assoc before so_far (Deliver offer k ∷ deliveries next promised me)
          ∙ ap (λ (l : List Event). before ++ l)
          (ap (λ n. so_far ++ Deliver offer k ∷ deliveries n promised me)
          (c.loop-other.invariant.next u cl named)
          ∙ ap (λ n. so_far ++ Deliver offer k ∷ deliveries behind n me)
          (c.in_ok-promised.ensures.count u cl named)
          ∙ ap (λ m. so_far ++ Deliver offer k ∷ deliveries behind (promised_in w u cl k) m)
          (sym own)
          ∙ sym (one_more_asked w u cl offer (suc offer) (take i asked) k)
          ∙ ap (asks_from w u cl offer (suc offer)) (sym more));
      next = λ u cl named.
          ap (λ n. n + promised) (c.loop-other.invariant.next u cl named)
          ∙ ap (λ n. behind_promises w u cl (suc offer) (take i asked) + n)
          (c.in_ok-promised.ensures.count u cl named)
          ∙ sym (one_more_behind w u cl (suc offer) (take i asked) k)
          ∙ ap (behind_promises w u cl (suc offer)) (sym more);
      small = omega (arith, most, so_few);
    }
