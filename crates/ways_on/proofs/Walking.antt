-- Each event of the way is the node's own claim, its Built, or the delivery of a datagram, at a
-- node that is up.
use Rattle.std.proofs.Common.{◌≡◌, ℕ, suc, ◌+◌, true, List, [], ◌∷◌, ◌++◌, Option, None, Some, length, map, refl, sym, ap, subst, ◌∙◌}
use Rattle.std.specs.Prelude.{All, Contains}
use Rattle.std.specs.List.{range_with_len}
use Rattle.std.proofs.lemmas.List.Elements.{All-append, All-cons, All-contains_itself, All-head, All-nil, All-tail, All-weaker}
use Rattle.claims.specs.Votes.{Ballot}
use Rattle.claims.specs.declared.claim.Claim.{Claim}
use Rattle.protocol.specs.Events.{Built, Claim as claims, Deliver, Event, node_of}
use Rattle.faults.specs.Bytes.{Text}
use Rattle.protocol.specs.Given.{Given}
use Rattle.protocol.specs.State.{State, Value}
use Rattle.ways_on.specs.Asked.{next_build}
use Rattle.ways_on.specs.Rounds.{last_round, next_claim}
use Rattle.ways_on.specs.Ways.{AreOnWay, IsOnWay}
use Rattle.ways_on.specs.inside.Listed.{asked_of, asks_from, behind_promises, deliveries, promised_in, proposed_by, proposed_in, report_of_all, told_of, votes_from, way_of}
use Rattle.ways_on.proofs.Seen.{asked_up}
use Rattle.world.specs.Happening.{is_up, up_of}
use Rattle.world.specs.World.{World}

module _ (w : World) (me : ℕ) (path : Text) (host : ℕ) (given : Given)
    (on : is_up w me ≡ true) where
  abbrev Goes : Event → Type 0
  Goes e = IsOnWay me path host given e × (is_up w (node_of e) ≡ true)

  come_to : (ds : List ℕ) (k : ℕ) → is_up w k ≡ true → All Goes (map (λ d. Deliver d k) ds)
  come_to [] k up = All-nil Goes
  come_to (d ∷ ds) k up =
      All-cons Goes (Deliver d k) (map (λ i. Deliver i k) ds) (tt, up) (come_to ds k up)

  are_asked : (u : ℕ) (c : Claim) (offer next : ℕ) (ks : List ℕ) → c.member ≡ me
      → All (λ k. is_up w k ≡ true) ks → All Goes (asks_from w u c offer next ks)
  are_asked u c offer next [] own up = All-nil Goes
  are_asked u c offer next (k ∷ ks) own up =
      All-cons Goes (Deliver offer k)
      (deliveries next (promised_in w u c k) c.member
      ++ asks_from w u c offer (next + promised_in w u c k) ks)
      (tt, All-head (λ k. is_up w k ≡ true) k ks up)
      (All-append Goes (deliveries next (promised_in w u c k) c.member)
      (asks_from w u c offer (next + promised_in w u c k) ks)
      (come_to (range_with_len next (promised_in w u c k)) c.member (ap (is_up w) own ∙ on))
      (are_asked u c offer (next + promised_in w u c k) ks own
      (All-tail (λ k. is_up w k ≡ true) k ks up)))

  are_voting : (first count next : ℕ) (ks : List ℕ) → All (λ k. is_up w k ≡ true) ks
      → All Goes (votes_from first count next me ks)
  are_voting first count next [] up = All-nil Goes
  are_voting first count next (k ∷ ks) up =
      All-append Goes (deliveries first count k)
      (Deliver next me ∷ votes_from first count (suc next) me ks)
      (come_to (range_with_len first count) k (All-head (λ k. is_up w k ≡ true) k ks up))
      (All-cons Goes (Deliver next me) (votes_from first count (suc next) me ks) (tt, on)
      (are_voting first count (suc next) ks (All-tail (λ k. is_up w k ≡ true) k ks up)))

  is_told : (report : Option (Ballot Value)) → All Goes (told_of report (Built me path given))
  is_told None = All-cons Goes (Built me path given) [] ((refl, refl, refl), on) (All-nil Goes)
  is_told (Some b) = All-nil Goes

  -- the nodes that are asked are up
  pub all_up : All (λ k. is_up w k ≡ true) (asked_of w)
  all_up = All-weaker (Contains (asked_of w)) (λ k. is_up w k ≡ true)
      (λ k at. let n = asked_up w k at in ap up_of n.1 ∙ n.2) (asked_of w)
      (All-contains_itself (asked_of w))

  pub are_on_way : (s : State) (u : ℕ) → s.me ≡ me
      → AreOnWay w me path host given (way_of w s u path host given)
  are_on_way s u own =
      let c = next_claim w u s.me in
      let offer = length w.sent in
      let report = report_of_all w u None (asked_of w) in
      let first = behind_promises w u c (suc offer) (asked_of w) in
      let count = proposed_in w u c (proposed_by report (next_build w s u host given)) in
      All-cons Goes (claims s.me path host (last_round w u s.me))
      (asks_from w u c offer (suc offer) (asked_of w) ++ told_of report (Built s.me path given)
      ++ votes_from first count (first + count) s.me (asked_of w))
      ((own, refl, refl), ap (is_up w) own ∙ on)
      (All-append Goes (asks_from w u c offer (suc offer) (asked_of w)
      ++ told_of report (Built s.me path given))
      (votes_from first count (first + count) s.me (asked_of w))
      (All-append Goes (asks_from w u c offer (suc offer) (asked_of w))
      (told_of report (Built s.me path given))
      (are_asked u c offer (suc offer) (asked_of w) own all_up)
      (subst (λ k. All Goes (told_of report (Built k path given))) (sym own) (is_told report)))
      (subst (λ k. All Goes (votes_from first count (first + count) k (asked_of w))) (sym own)
      (are_voting first count (first + count) (asked_of w) all_up)))
