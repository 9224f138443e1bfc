-- Two turns.
use Rattle.std.proofs.Common.{◌≡◌, ◌++◌, ◌∙◌, ℕ, List, Option, None, Some, Ok, Err, ap, subst, append_assoc}
use Rattle.turn_rules.specs.Acts.{asked_by}
use Rattle.turn_rules.specs.declared.act.Act.{Act}
use Rattle.node.specs.Parcels.{datagrams_to}
use Rattle.node.specs.State.{NodeState}
use Rattle.node.specs.Step.{Takes, after}
use Rattle.turn_rules.specs.Offered.{parcels_from}
use Rattle.datagram_ports.specs.Kept.{GoesOnBy}
use Rattle.lone_node.specs.Handed.{Handed}
use Rattle.lone_node.specs.State.{SoloState}
use Rattle.lone_node.specs.Turn.{HasTaken}
use Rattle.lone_node.specs.Turns.{IsTurn, Outcome}
use Rattle.check_turns.specs.Two.{HasTakenTwo, TookTwo, sent_by}
use Rattle.stable_record.specs.declared.disk.Disk.{Ghosts as Disk}
use Rattle.datagram_ports.specs.declared.port.Port.{Ghosts as Port}

-- two appends to a record are one
goes_then : {X : Type 0} (xs ys : List X) (a b c : Option (List X)) → GoesOnBy xs a b
    → GoesOnBy ys b c → GoesOnBy (xs ++ ys) a c
goes_then xs ys a b None first next = tt
goes_then xs ys a None (Some l) first next = absurd next
goes_then xs ys None (Some k) (Some l) first next = absurd first
goes_then xs ys (Some j) (Some k) (Some l) first next =
    next ∙ (ap (λ (m : List _). m ++ ys) first ∙ append_assoc j xs ys)

module _ {D P : Type 0} (disk : Disk D)
    (port : Port P) (handed : Handed)
    (old between new : SoloState D P) where
  abbrev Turn : SoloState D P → SoloState D P → Outcome → Type 0
  Turn = IsTurn disk port handed

  both : (one other : Act)
      → HasTaken port old between handed (asked_by one)
      → HasTaken port between new handed (asked_by other)
      → HasTakenTwo port old new (asked_by one) (asked_by other)
  both one other t u = record {
    one = t.taken;
    other = u.taken;
    takes = t.takes;
    takes_then = subst (λ n. Takes n (asked_by other) (Ok u.taken)) t.node u.takes;
    node = u.node ∙ ap (λ (n : NodeState). after n u.taken) t.node;
    offers = goes_then (sent_by old t.taken) (sent_by old u.taken) (port.offered old.port)
        (port.offered between.port) (port.offered new.port) t.offers
        (subst (λ (k : ℕ). GoesOnBy (parcels_from k (datagrams_to u.taken.answer.sends))
        (port.offered between.port) (port.offered new.port))
        (ap (λ (n : NodeState). n.member.me) t.node) u.offers);
  }

  pub took_two : (first second : Outcome) → Turn old between first → Turn between new second
      → TookTwo port old new first second
  took_two (Ok None) second t u = tt
  took_two (Err f) second t u = tt
  took_two (Ok (Some one)) (Ok None) t u = tt
  took_two (Ok (Some one)) (Err f) t u = tt
  took_two (Ok (Some one)) (Ok (Some other)) t u = both one other t.done.taken u.done.taken
