use Rattle.std.proofs.Common.{◌≡◌, ◌+◌, ◌++◌, [], ◌∷◌, List, ap, get_or, length, map, take, sym, ◌∙◌, append_assoc, arith}
use Rattle.std.proofs.lemmas.List.{length-take-le, take_more}
use Rattle.protocol.specs.Events.{Deliver, Event, event_view}
use Rattle.ways_on.specs.inside.Listed.{deliveries, votes_from}
use Rattle.ways_on.proofs.Writing.{one_more_votes}
use Rattle.ways_on.proofs.route.propose.Goals as goal

pub loop-other-preserved : goal.loop-other-preserved
loop-other-preserved c =
    let i = c.loop-other.other-index in
    let asked = c.args.asked.now in
    let k = get_or asked i 0 in
    let first = c.args.proposal in
    let n = c.args.pieces in
    let me = c.args.node in
    let vote = c.loop-other.vote in
    let before = map event_view c.args.events.now.items in
    let so_far = votes_from first n (first + n) me (take i asked) in
    let there = c.loop-other.invariant.vote in
    let many = length-take-le i asked (omega (arith, c.loop-other-test.true)) in
    let same : vote ≡ first + n + length (take i asked) = omega (arith, there, many) in
    record {
      events = c.in_ok-deliver-2.ensures
          ∙ ap (λ (l : List Event). l ++ Deliver vote me ∷ []) (c.in_ok-deliver.ensures
          ∙ ap (λ (l : List Event). l ++ deliveries first n k) c.loop-other.invariant.events)
          ∙ append_assoc (before ++ so_far) (deliveries first n k) (Deliver vote me ∷ [])
          ∙ append_assoc before so_far (deliveries first n k ++ Deliver vote me ∷ [])
          ∙ ap (λ (l : List Event). before ++ l)
          (ap (λ v. so_far ++ (deliveries first n k ++ Deliver v me ∷ [])) same
          ∙ sym (one_more_votes first n (first + n) me (take i asked) k)
          ∙ ap (votes_from first n (first + n) me)
          (sym (take_more asked i 0 c.loop-other-test.true)));
      vote = omega (arith, there);
    }
