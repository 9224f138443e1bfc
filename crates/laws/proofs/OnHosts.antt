-- A turn is one of the things that may happen to hosts.
use Rattle.std.proofs.Common.{◌≡◌, ◌≢◌, ◌++◌, ℕ, List, [], None, Some, Ok, Err, slice_get, slice_set, refl, sym, ap, ◌∙◌, ⊎_elim}
use Rattle.std.specs.Prelude.{Contains}
use Rattle.turn_rules.specs.Acts.{asked_by}
use Rattle.turn_rules.specs.declared.act.Act.{Act}
use Rattle.turn_rules.specs.declared.fault.TurnFault.TheVariants as refused
use Rattle.faults.specs.Bytes.{Text}
use Rattle.laws.proofs.Turning.{asks_so, taken_so}
use Rattle.laws.specs.Hosts.{Down, Host, Hosts, IsLeft, Up, WasOffered, sends_of}
use Rattle.laws.specs.OnHosts.{HasOffered, IsAfterTurn, ReceivedOffered, TookOffered, TurnsAreOfARun, VouchedTurnsAreOfARun, host_after}
use Rattle.laws.specs.Run as run
use Rattle.laws.specs.Run.{Run}
use Rattle.laws.specs.Turns.{IsStepTaken}
use Rattle.listing.specs.Tree.{Tree}
use Rattle.node.specs.Calls.{left_by}
use Rattle.node.specs.OnLog.{IsLogged}
use Rattle.node.specs.State.{LoggedNode}
use Rattle.node.specs.Step.{Asked, Comes, Does, after}
use Rattle.node.specs.declared.fault.NodeFault.{NodeFault}
use Rattle.datagram_ports.specs.Kept.{Parcel}
use Rattle.lone_node.proofs.Coming.{choice_heard}
use Rattle.lone_node.specs.Faults.{RefusesChoice}
use Rattle.lone_node.specs.Handed.{Handed}
use Rattle.lone_node.specs.State.{SoloState, me_of}
use Rattle.lone_node.specs.Turn.{IsChosen, IsHeard, LeavesAtMost}
use Rattle.lone_node.specs.Turns.{IsTurn, Outcome}
use Rattle.one_list.proofs.uses.HostedNodes.{set_elsewhere, set_there}
use Rattle.stable_record.specs.declared.disk.Disk.{Ghosts as Disk}
use Rattle.datagram_ports.specs.declared.port.Port.{Ghosts as Port}

module _ {D P : Type 0} (disk : Disk D)
    (port : Port P) (tree : Tree)
    (weights : List ℕ) (first h : Hosts) (k : ℕ) (handed : Handed) (old new : SoloState D P)
    (left : List Text) (before : Run tree weights first h)
    (up : slice_get h.hosts k ≡ Some (Up old.node.node))
    (is_left : IsLeft h.offered old.node.node left) (logged : IsLogged old.node) where
  -- what has to be shown of an answer
  abbrev Goes : Outcome → Type 0
  Goes answer = (g : Hosts) × Run tree weights first g × IsAfterTurn h g k old new left answer

  -- nothing happens to the hosts if the node is unchanged
  stays : (answer : Outcome) → host_after new left answer ≡ Up new.node.node
      → HasOffered old answer h.offered h.offered → new.node.node ≡ old.node.node → Goes answer
  stays answer runs silent same = (
    h,
    run.stayed h h before refl,
    record {
      here = up ∙ ap (λ n. Some (Up n)) (sym same) ∙ ap Some (sym runs);
      others = λ j other. refl;
      offered = silent;
    },
  )

  -- the hosts with another one at its place
  abbrev with_host : Host → List Text → Hosts
  with_host x texts = record { hosts = slice_set h.hosts k x; offered = texts }

  becomes : (answer : Outcome) (x : Host) → x ≡ host_after new left answer → (texts : List Text)
      → HasOffered old answer h.offered texts → Run tree weights first (with_host x texts)
      → Goes answer
  becomes answer x is texts sent run_on = (
    with_host x texts,
    run_on,
    record {
      here = set_there h.hosts k (Up old.node.node) x up ∙ ap Some is;
      others = λ j other. set_elsewhere h.hosts k j x other;
      offered = sent;
    },
  )

  -- the node took its step
  took : (act : Act) → WasOffered h.offered (asked_by act)
      → IsStepTaken port old new (asked_by act) → Goes (Ok (Some act))
  took act came s =
      let step = s.step h.offered came in
      becomes (Ok (Some act)) (Up (after old.node.node s.taken)) (ap Up (sym s.node))
      (h.offered ++ sends_of s.taken) (s.taken, step.takes, refl)
      (run.turned h (with_host (Up (after old.node.node s.taken)) (h.offered ++ sends_of s.taken))
      before (record {
        number = k;
        node = old.node.node;
        up = up;
        asked = asked_by act;
        taken = s.taken;
        step = step;
        hosts = refl;
        offered = refl;
      }))

  -- or it was refused
  refused_so : (f : NodeFault)
      → (r : RefusesChoice port old new handed f) → WasOffered h.offered r.0
      → Goes (Err (refused.Node f))
  refused_so f (asked, is_chosen, r) came = ⊎_elim
      (λ takes. becomes (Err (refused.Node f)) (Up (left_by old.node.node asked f))
      (ap Up (sym r.leaves)) h.offered refl
      (run.refused h (with_host (Up (left_by old.node.node asked f)) h.offered) before (record {
        number = k;
        node = old.node.node;
        up = up;
        asked = asked;
        fault = f;
        asks = asks_so port handed (LeavesAtMost disk old new) old
            new logged asked [] is_chosen;
        came = came;
        refuses = takes;
        hosts = refl;
        offered = refl;
      })))
      (λ full. stays (Err (refused.Node f)) refl refl
      (r.leaves ∙ ap (left_by old.node.node asked) full.0))
      r.cause

  -- or its device failed
  went_down : (j : ℕ) → Goes (Err (refused.Down j))
  went_down j =
      becomes (Err (refused.Down j)) (Down left) refl h.offered refl
      (run.ended h (with_host (Down left) h.offered) before (record {
        number = k;
        node = old.node.node;
        up = up;
        left = left;
        is_left = is_left;
        hosts = refl;
        offered = refl;
      }))

  pub goes_on : (answer : Outcome)
      → (turn : IsTurn disk port handed old new answer)
      → TookOffered disk port handed old new answer
      turn h.offered
      → Goes answer
  goes_on (Ok (Some act)) t came = took act came
      (taken_so port handed (LeavesAtMost disk old new) old new
      logged (Ok (Some act)) t.done.taken)
  goes_on (Ok None) t came =
      stays (Ok None) refl refl (ap (λ (n : LoggedNode D). n.node) (t.done.same).0)
  goes_on (Err refused.Memory) t came =
      stays (Err refused.Memory) refl refl (t.refuses.refused).2
  goes_on (Err (refused.Node f)) t came = refused_so f t.refuses.refused came
  goes_on (Err (refused.Down j)) t came = went_down j
  goes_on (Err refused.NotSent) t came = absurd t.refuses.refused
  goes_on (Err refused.NotFresh) t came = absurd t.refuses.refused

module _ {D P : Type 0} (disk : Disk D)
    (port : Port P) where
  pub turns_are_of_a_run :
      TurnsAreOfARun disk port
  turns_are_of_a_run tree weights first h k handed old new left answer before up is_left turn came =
      goes_on disk port tree weights first h k
      handed old new left before up is_left turn.log.logged answer turn came

  -- all that the port vouches for is among these
  abbrev AllAmong : P → List Text → Type 0
  AllAmong state texts = (text : Text) → port.vouches state text → Contains texts text

  -- bytes that arrived were vouched for, so they were offered
  was_offered : (texts : List Text) (state : P) → AllAmong state texts
      → (asked : Asked) → IsHeard port state asked → WasOffered texts asked
  was_offered texts state all (Comes text) heard = all text heard
  was_offered texts state all (Does input) heard = tt

  module _ (handed : Handed) (old new : SoloState D P) (texts : List Text) where
    chosen_offered : (asked : Asked) (parcels : List Parcel)
        → (c : IsChosen port old new handed parcels (Some (me_of old, asked)))
        → AllAmong c.between texts → WasOffered texts asked
    chosen_offered asked parcels c all = was_offered texts c.between all asked
        (choice_heard port old new handed parcels (Some (me_of old, asked)) c asked refl)

    -- so it is of what the turn took
    took_offered : (answer : Outcome)
        → (turn : IsTurn disk port handed old new answer)
        → ReceivedOffered disk port handed old new answer
        turn texts
        → TookOffered disk port handed old new answer
        turn texts
    took_offered (Ok (Some act)) turn all =
        chosen_offered (asked_by act) _ (turn.done.taken).chosen all
    took_offered (Ok None) turn all = tt
    took_offered (Err refused.Memory) turn all = tt
    took_offered (Err (refused.Node f)) turn all =
        chosen_offered (turn.refuses.refused).0 [] (turn.refuses.refused).1 all
    took_offered (Err (refused.Down k)) turn all =
        chosen_offered (turn.refuses.refused).0 [] (turn.refuses.refused).1 all
    took_offered (Err refused.NotSent) turn all = tt
    took_offered (Err refused.NotFresh) turn all = tt

  pub vouched_turns_are_of_a_run :
      VouchedTurnsAreOfARun disk port
  vouched_turns_are_of_a_run tree weights first h k handed old new left answer before up is_left turn
      all =
      turns_are_of_a_run tree weights first h k handed old new left answer before up is_left turn
      (took_offered handed old new h.offered answer turn all)
