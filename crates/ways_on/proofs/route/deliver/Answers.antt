use Rattle.std.proofs.Common.{◌+◌, ◌++◌, [], ◌∷◌, List, map, ap, sym, refl, ◌∙◌, append_assoc}
use Rattle.std.proofs.lemmas.List.{map-append}
use Rattle.std.proofs.lemmas.List.FromFn.{map-range_with_len_more}
use Rattle.protocol.specs.Events.{Deliver, Event, event_view}
use Rattle.ways_on.specs.inside.Listed.{deliveries}
use Rattle.ways_on.proofs.route.deliver.Goals as goal

pub loop-ahead-preserved : goal.loop-ahead-preserved
loop-ahead-preserved c =
    let k = c.args.node in
    let first = c.args.first in
    let n = c.loop-ahead.ahead in
    let before = map event_view c.args.events.now.items in
    ap (map event_view) c.in_ok-push.ensures.items
    ∙ map-append event_view c.loop-ahead.events.items _
    ∙ ap (λ (l : List Event). l ++ Deliver (first + n) k ∷ []) c.loop-ahead.invariant
    ∙ append_assoc before (deliveries first n k) (Deliver (first + n) k ∷ [])
    ∙ ap (λ (l : List Event). before ++ l)
    (sym (map-range_with_len_more (λ d. Deliver d k) first n (first + n) refl))
