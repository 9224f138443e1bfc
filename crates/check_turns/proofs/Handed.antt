-- A port in memory that is passed from one node to another.
use Rattle.std.proofs.Common.{◌≡◌, ◌==◌, ◌++◌, ◌∙◌, ℕ, true, false, List, [], ◌∷◌, None, Some, Result, Ok, Err, length, if◌then◌else◌, refl, sym, ap, subst, eq-eqb}
use Rattle.std.proofs.lemmas.Bool.{true≢false}
use Rattle.std.specs.List.{range_with_len}
use Rattle.std.specs.Prelude.{is_some, option_and_then, option_map}
use Rattle.turn_rules.specs.Acts.{asked_by}
use Rattle.turn_rules.specs.Answering.{answer_if, answer_of, answer_to}
use Rattle.turn_rules.specs.Choice.{Chosen, IsFirstDone, IsGivenOr, all_made, comes_to, each_own, first_answer, has_answer, in_turn}
use Rattle.turn_rules.specs.declared.fault.TurnFault.{TurnFault}
use Rattle.turn_rules.specs.declared.fault.TurnFault.TheVariants as refused
use Rattle.faults.specs.Answers.{option_or}
use Rattle.faults.specs.Bytes.{Text}
use Rattle.node.specs.Calls.{HasTried}
use Rattle.node.specs.State.{NodeState}
use Rattle.node.specs.Step.{Asked, Comes}
use Rattle.turn_rules.specs.Calls.{came_by}
use Rattle.turn_rules.specs.Offered.{sends_of}
use Rattle.datagram_ports.proofs.Calls.{WentThrough-append}
use Rattle.datagram_ports.proofs.Waiting.{left_waiting}
use Rattle.datagram_ports.specs.Calls.{Received, WentThrough}
use Rattle.datagram_ports.specs.InMemory.{DoesInMemory, MemPortState, first_of}
use Rattle.datagram_ports.specs.Kept.{Arrived, Parcel}
use Rattle.datagram_ports.specs.declared.fault.PortFault.{PortFault}
use Rattle.protocol.specs.Given.{Given}
use Rattle.protocol.specs.State.{State}
use Rattle.lone_node.proofs.Each.{none_does_so}
use Rattle.lone_node.specs.Faults.{IsRefusedBy}
use Rattle.lone_node.specs.Handed.{AllBuilds}
use Rattle.lone_node.specs.State.{SoloState, me_of, member_up, only}
use Rattle.lone_node.specs.Turn.{IsChosen, received_by}
use Rattle.lone_node.specs.Turns.{IsTurn, Outcome}
use Rattle.check_turns.proofs.Waiting.{mem_port}
use Rattle.check_turns.specs.Handed.{HearsTheFirst, IsAbout, PutsItsSends}
use Rattle.stable_record.specs.declared.disk.Disk.{Ghosts as Disk}

module _ {D : Type 0} (disk : Disk D) (builds : Given) (old new : SoloState D MemPortState) where
  abbrev Turn : Outcome → Type 0
  Turn = IsTurn disk mem_port (AllBuilds builds) old new

  abbrev n : NodeState
  n = old.node.node

  abbrev count : ℕ
  count = length n.member.weights

  -- ---- what a step sends is queued

  pub puts : (answer : Outcome) → Turn answer → PutsItsSends old new answer
  puts (Ok None) t = tt
  puts (Err f) t = tt
  puts (Ok (Some act)) t =
      let chosen = (t.done.taken).chosen in
      let sent = chosen.sent in (
        (t.done.taken).taken,
        (t.done.taken).takes,
        record {
          looked = has_answer (only n) count (all_made builds);
          came = chosen.answer;
          answers = sent.0;
          sends = sent.1;
          left = left_waiting old.port new.port
              (received_by (has_answer (only n) count (all_made builds)) chosen.answer ++ sends_of sent.0)
              (WentThrough-append DoesInMemory old.port chosen.between new.port
              (received_by (has_answer (only n) count (all_made builds)) chosen.answer) (sends_of sent.0)
              chosen.received sent.2);
        },
      )

  -- ---- the first datagram in the queue is received

  module _ (no_claim : n.member.claim ≡ None) (runs : n.stopped ≡ false) (text : Text)
      (first : first_of old.port.waiting ≡ Some (me_of old, text))
      (hears : old.port.orders.is_deaf ≡ false) where
    up : member_up n ≡ Some n.member
    up = ap (λ b. if b then None else Some n.member) runs

    here : only n n.member.me ≡ Some n.member
    here = ap (λ b. if b then member_up n else None) (eq-eqb n.member.me n.member.me refl) ∙ up

    no_answer : option_and_then (answer_if (Some builds)) (member_up n) ≡ None
    no_answer = ap (option_and_then (λ s. answer_of s builds)) up
        ∙ ap (option_and_then (λ o. answer_to n.member builds o o.progress)) no_claim

    no_job : first_answer (only n) count (all_made builds) ≡ None
    no_job =
        none_does_so n (λ k. answer_if (Some builds)) no_answer (range_with_len 0 count)

    -- what the one receive returned
    gave : (answer : Result Arrived PortFault) (between : MemPortState)
        → WentThrough DoesInMemory old.port (Received answer ∷ []) between
        → came_by answer ≡ Some (n.member.me, text)
    gave (Ok came) between (next, (kept, not_deaf, is, left, _), same) = is ∙ first
    gave (Err f) between (next, (kept, deaf, failed, left, _), same) =
        absurd (true≢false (sym deaf ∙ hears))

    abbrev later : Chosen → Type 0
    later c =
        IsFirstDone (only n) count old.pending each_own (in_turn old.pending.next count) c

    -- so that is chosen
    is_that : (c : Chosen) (parcels : List Parcel)
        → IsChosen mem_port old new (AllBuilds builds) parcels c
        → c ≡ Some (n.member.me, Comes text)
    is_that c parcels is = subst (λ g. IsGivenOr g c (later c))
        (ap (λ j. option_or j (comes_to (only n) (came_by is.answer))) no_job
        ∙ (ap (comes_to (only n))
        (gave is.answer is.between
        (subst (λ j. WentThrough DoesInMemory old.port (received_by (is_some j) is.answer)
        is.between) no_job is.received))
        ∙ ap (option_map (λ (s : State). (n.member.me, Comes text))) here))
        is.choice

    asks_that : (asked : Asked) (parcels : List Parcel)
        → IsChosen mem_port old new (AllBuilds builds) parcels
        (Some (n.member.me, asked)) → asked ≡ Comes text
    asks_that asked parcels is =
        let known : ◌≡◌ {A = Chosen} (Some (n.member.me, asked)) (Some (n.member.me, Comes text))
        = is_that (Some (n.member.me, asked)) parcels is in
        let same : ◌≡◌ {A = ℕ × Asked} (n.member.me, asked) (n.member.me, Comes text) = cc in
        ap (λ (x : ℕ × Asked). x.1) same

    by_fault : (f : TurnFault) → Turn (Err f) → IsAbout old.node new.node text (Err f)
    by_fault refused.Memory t = (t.refuses.refused).2
    by_fault (refused.Node f) t =
        let r = t.refuses.refused in
        subst (λ asked. IsRefusedBy old.node new.node asked f) (asks_that r.0 [] r.1) r.2
    by_fault (refused.Down k) t =
        let r = t.refuses.refused in
        subst (HasTried old.node) (asks_that r.0 [] r.1) r.3
    by_fault refused.NotSent t = t.refuses.refused
    by_fault refused.NotFresh t = t.refuses.refused

    is_about : (answer : Outcome) → Turn answer → IsAbout old.node new.node text answer
    is_about (Ok None) t =
        absurd (let no : ◌≡◌ {A = Chosen} None (Some (n.member.me, Comes text)) =
        is_that None [] t.done.nothing in cc)
    is_about (Ok (Some act)) t = asks_that (asked_by act) _ (t.done.taken).chosen
    is_about (Err f) t = by_fault f t

  pub hears_first : n.member.claim ≡ None → n.stopped ≡ false → (answer : Outcome)
      → Turn answer → HearsTheFirst old new answer
  hears_first no_claim runs answer t text first hears =
      is_about no_claim runs text first hears answer t
