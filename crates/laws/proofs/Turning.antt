-- What a turn with this answer does to its host.
use Rattle.std.proofs.Common.{◌≡◌, List, [], Option, None, Some, Result, Ok, Err, IfErr, IfOk, ap, ◌∙◌, inl, inr, ⊎_elim}
use Rattle.std.specs.Prelude.{IfNone, IfSome}
use Rattle.ballots.specs.declared.message.Note.{Note}
use Rattle.turn_rules.specs.Acts.{asked_by}
use Rattle.turn_rules.specs.declared.act.Act.{Act}
use Rattle.turn_rules.specs.declared.fault.TurnFault.{TurnFault}
use Rattle.turn_rules.specs.declared.fault.TurnFault.TheVariants as refused
use Rattle.laws.proofs.Asking.{chosen_asks, number_is_small}
use Rattle.laws.specs.Hosts.{IsOfATurn}
use Rattle.laws.specs.Turns.{IsRefusedTurn, IsStepTaken}
use Rattle.node.specs.Calls.{left_by}
use Rattle.node.specs.OnLog.{HasRoomForNote, IsFull, IsLogged}
use Rattle.node.specs.Step.{Asked}
use Rattle.turn_rules.specs.Calls.{came_by}
use Rattle.datagram_ports.specs.Kept.{Parcel}
use Rattle.protocol.specs.State.{Value}
use Rattle.lone_node.specs.Faults.{IsTurnFault}
use Rattle.lone_node.specs.Handed.{Handed}
use Rattle.lone_node.specs.State.{SoloState, me_of}
use Rattle.lone_node.specs.Turn.{HasTaken, IsChosen, OffersNothing}
use Rattle.one_list.proofs.uses.HostedNodes.{lack_of_full}
use Rattle.datagram_ports.specs.declared.port.Port.{Ghosts as Port}

module _ {D P : Type 0} (port : Port P) (handed : Handed)
    (leaves : Asked → Type 0) (old new : SoloState D P) (logged : IsLogged old.node) where
  -- a turn asks what was chosen
  pub asks_so : (asked : Asked) (parcels : List Parcel)
      → IsChosen port old new handed parcels (Some (me_of old, asked))
      → IsOfATurn asked
  asks_so asked parcels c =
      chosen_asks old.node.node (number_is_small old.node.node logged.node.member) _ old.pending
      handed (came_by c.answer) (me_of old, asked) c.choice

  -- if a turn answers what the node did, the node took that step
  pub taken_so : (r : Result (Option Act) TurnFault)
      → IfOk r (λ o. IfSome o
      (λ act. HasTaken port old new handed (asked_by act)))
      → IfOk r (λ o. IfSome o (λ act. IsStepTaken port old new (asked_by act)))
  taken_so (Ok (Some act)) t = record {
    taken = t.taken;
    step = λ before came. record {
      asks = asks_so (asked_by act) _ t.chosen;
      came = came;
      takes = t.takes;
      room = t.room;
    };
    node = t.node;
    offers = t.offers;
  }
  taken_so (Ok None) t = tt
  taken_so (Err f) t = tt

  -- if there was nothing to do, the node is unchanged
  pub stayed_so : (r : Result (Option Act) TurnFault)
      → IfOk r (λ o. IfNone o ((new.node ≡ old.node) × (new.pending ≡ old.pending)
      × OffersNothing port old new))
      → IfOk r (λ o. IfNone o (new.node ≡ old.node))
  stayed_so (Ok (Some act)) same = tt
  stayed_so (Ok None) same = same.0
  stayed_so (Err f) same = tt

  -- if there was room on the log, room is not lacking
  pub has_room : (o : Option (Note Value)) → HasRoomForNote old.node.log o
      → ¬ IsFull old.node.node o
  has_room None room = absurd room
  has_room (Some note) room = λ full. room (lack_of_full old.node logged.end (Some note) full)

  -- what a refused turn does
  pub refused_so : (f : TurnFault) → IsTurnFault port old new handed leaves f
      → IsRefusedTurn old new f
  refused_so refused.Memory (asked, is_chosen, same) = same
  refused_so (refused.Node f) (asked, is_chosen, r) = ⊎_elim
      (λ takes. inr (record {
        asked = asked;
        asks = asks_so asked [] is_chosen;
        refuses = takes;
        left = r.leaves;
      }))
      (λ full. inl (r.leaves ∙ ap (left_by old.node.node asked) full.0))
      r.cause
  refused_so (refused.Down k) (asked, is_chosen, me, tried, down, left) = record {
    asked = asked;
    taken = tried.step;
    step = λ before came. record {
      asks = asks_so asked [] is_chosen;
      came = came;
      takes = tried.takes;
      room = has_room tried.step.answer.note tried.room;
    };
    node = down;
  }
  refused_so refused.NotSent none = absurd none
  refused_so refused.NotFresh none = absurd none

  pub refusals_so : (r : Result (Option Act) TurnFault)
      → IfErr r (IsTurnFault port old new handed leaves) → IfErr r (IsRefusedTurn old new)
  refusals_so (Ok o) why = tt
  refusals_so (Err f) why = refused_so f why
