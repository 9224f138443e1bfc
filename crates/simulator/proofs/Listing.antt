-- The list after a step is extended by the build that its vote decides.
use Rattle.std.proofs.Common.{◌≡◌, ◌⊎◌, ℕ, zero, true, List, [], ◌∷◌, Option, None, Some, refl, sym, ap, subst, ◌∙◌, arith, inr, ⊎_elim, true≢false}
use Rattle.std.specs.Prelude.{Contains, option_and_then}
use Rattle.faults.specs.Bytes.{Text}
use Rattle.claims.specs.AgreedList.{Act}
use Rattle.claims.specs.Quorums.{is_majority}
use Rattle.claims.specs.declared.claim.Claim.{Claim}
use Rattle.ballots.specs.InTheAgreement.{said}
use Rattle.ballots.specs.declared.message.Note.{Note}
use Rattle.protocol.specs.Events as events
use Rattle.protocol.specs.Events.{Event, is_step}
use Rattle.protocol.specs.Events.{node_of as whose}
use Rattle.one_list.specs.Local.{AreLocal}
use Rattle.one_list.specs.Matches.{Matches}
use Rattle.one_list.specs.Mirrored.{after_all_acts}
use Rattle.one_list.proofs.acts.StepActs.{Acted, IsAct}
use Rattle.one_list.proofs.acts.DeliveryActs.{delivery_is_act}
use Rattle.one_list.proofs.acts.InputActs.{ask_is_act, claim_is_act, failed_is_act, nudged_is_act}
use Rattle.one_list.proofs.acts.BuildActs.{build_is_act}
use Rattle.one_list.proofs.clauses.OneListOfRuns.{each_run_is_acts}
use Rattle.node.specs.Step.{ReadyStep, Taken, answer_then, nothing, taken_by}
use Rattle.node.specs.Prepared.{Prepared}
use Rattle.package_record.proofs.BuildsRead.{build_is_read}
use Rattle.protocol.specs.Answers.{Answer}
use Rattle.protocol.specs.State.{State, Value}
use Rattle.protocol.specs.declared.sends.Send.{Send}
use Rattle.world.specs.Happening.{Acts}
use Rattle.world.specs.Lists.{IsListAfter}
use Rattle.world.specs.Sent.{voters, with_sends}
use Rattle.world.specs.World.{IsMade, World, WorldNode, member_at, node_at}
use Rattle.simulator.specs.inside.Deciding.{claim_voted, decided_by, decision, message_in}
use Rattle.simulator.specs.inside.Standing.{IsReached}
use Rattle.simulator.specs.inside.NodeSteps.{with_decision}
use Rattle.simulator.proofs.Casting.{vote_of}
use Rattle.simulator.proofs.VoteSent.{vote_is}
use Rattle.simulator.proofs.NewVotes.{not_decided, said_same, says_it, votes_so}
use Rattle.simulator.proofs.VoteLists.{vote_lists}

-- if nothing new was sent, the list is unchanged
list_stays : (w : World) (after : List Text) → after ≡ w.sent → IsListAfter w after w.agreed
list_stays w after same = inr (
  λ t c d. true≢false
      (sym d.now ∙ ap (λ texts. is_majority w.weights (voters w texts t c)) same ∙ d.not_before),
  refl,
)

-- ---- what a member's answer decides

-- the build that the note and the messages decide
abbrev decided_in : World → State → Option (Note Value) → List Send → Option Value
decided_in w member note sends =
    option_and_then (λ m. decided_by w.weights w.sent member note m (claim_voted m.body))
    (message_in sends)

-- it is what the step decides
decision_is : (w : World) (member : State) (p : Option Prepared)
    → decision w.weights w.sent member p ≡ decided_in w member (answer_then member p).note
    (answer_then member p).sends
decision_is w member None = refl
decision_is w member (Some p) = refl

module _ (w : World) (made : IsMade w.division w.weights) (acts : List (Act Value))
    (local : AreLocal w) (m : Matches w (after_all_acts w.division w.weights acts))
    (e : Event) (s : Acted w e)
    (a : IsAct w.division w.weights acts w made (refl, refl) local m build_is_read e s) where
  -- the node, and its member
  abbrev k : ℕ
  k = whose e

  abbrev x : WorldNode
  x = s.node

  abbrev member : State
  member = member_at w k x

  -- its answer
  abbrev answer : Answer
  answer = s.taken.answer

  -- what was sent afterwards
  abbrev sent : List Text
  sent = with_sends w.sent answer.sends

  -- the list extended by the build that the note and these messages decide
  abbrev IsListBy : List Send → Type 0
  IsListBy sends =
      IsListAfter w sent (with_decision w.agreed (decided_in w member answer.note sends))

  by_claim : (z : Send) → Contains answer.sends z → (o : Option Claim)
      → claim_voted z.message.body ≡ o
      → IsListAfter w sent
      (with_decision w.agreed (decided_by w.weights w.sent member answer.note z.message o))
  by_claim z there None is = inr (
    λ t c decided. not_decided w made acts local m e s a t c
        (λ j send about. absurd (let wrong : None ≡ Some c = sym is
        ∙ votes_so k j c z.message.body (said_same (said k z.message.body) (vote_of j c)
        (sym (says_it w made acts local m e s a z there).body ∙ send)) in cc)) decided,
    refl,
  )
  by_claim z there (Some c) is =
      vote_lists w made acts local m e s a z there c (vote_is z.message.body c is)

  by_sends : (sends : List Send) → answer.sends ≡ sends → IsListBy sends
  by_sends [] e = list_stays w sent (ap (with_sends w.sent) e)
  by_sends (z ∷ zs) e = by_claim z
      (subst (λ l. Contains l z) (sym e) (zero, omega arith, refl))
      (claim_voted z.message.body) refl

  pub act_lists : IsListBy answer.sends
  act_lists = by_sends answer.sends refl

-- ---- each step is an act, or nothing

module _ (w : World) (made : IsMade w.division w.weights) (acts : List (Act Value))
    (local : AreLocal w) (m : Matches w (after_all_acts w.division w.weights acts)) where
  abbrev IsActOrNothing : (e : Event) → Acted w e → Type 0
  IsActOrNothing e s =
      (s.taken.answer ≡ nothing (member_at w (whose e) s.node))
      ⊎ IsAct w.division w.weights acts w made (refl, refl) local m build_is_read e s

  step_is_act : (e : Event) → is_step e ≡ true → (s : Acted w e) → IsActOrNothing e s
  step_is_act (events.Claim n path host above) step s = inr (claim_is_act w.division w.weights acts
      w made (refl, refl) local m build_is_read n path host above s)
  step_is_act (events.Built n path files) step s = inr (build_is_act w.division w.weights acts
      w made (refl, refl) local m build_is_read n path files s)
  step_is_act (events.Failed n path) step s = inr (failed_is_act w.division w.weights acts
      w made (refl, refl) local m build_is_read n path s)
  step_is_act (events.Nudge n) step s = inr (nudged_is_act w.division w.weights acts
      w made (refl, refl) local m build_is_read n s)
  step_is_act (events.Ask n path) step s = inr (ask_is_act w.division w.weights acts
      w made (refl, refl) local m build_is_read n path s)
  step_is_act (events.Deliver d n) step s = delivery_is_act w.division w.weights acts
      w made (refl, refl) local m build_is_read d n s
  step_is_act (events.Stop n) step s = absurd (true≢false (sym step))
  step_is_act (events.StopIn e l) step s = absurd (true≢false (sym step))
  step_is_act (events.Restart n) step s = absurd (true≢false (sym step))

  answer_lists : (e : Event) → is_step e ≡ true → (s : Acted w e)
      → IsListAfter w (with_sends w.sent s.taken.answer.sends)
      (with_decision w.agreed
      (decided_in w (member_at w (whose e) s.node) s.taken.answer.note s.taken.answer.sends))
  answer_lists e step s = ⊎_elim
      (λ none. subst (λ (a : Answer). IsListAfter w (with_sends w.sent a.sends)
      (with_decision w.agreed (decided_in w (member_at w (whose e) s.node) a.note a.sends)))
      (sym none) (list_stays w w.sent refl))
      (λ a. act_lists w made acts local m e s a)
      (step_is_act e step s)

-- In a world that can be reached, the list after a step is extended by the build that the step
-- decides.
pub step_lists : (w : World) → IsReached w → (e : Event) → is_step e ≡ true → (x : WorldNode)
    → (t : Taken) → Acts w e x t → (r : ReadyStep) → t ≡ taken_by (node_at w (whose e) x) r
    → IsListAfter w (with_sends w.sent t.answer.sends)
    (with_decision w.agreed (decision w.weights w.sent (member_at w (whose e) x) r.step))
step_lists w reached e step x t acts r is =
    let run = each_run_is_acts w.division w.weights reached.events w reached.made reached.led in
    subst (λ o. IsListAfter w (with_sends w.sent t.answer.sends) (with_decision w.agreed o))
    (sym (decision_is w (member_at w (whose e) x) r.step
    ∙ ap (λ (z : Taken). decided_in w (member_at w (whose e) x) z.answer.note z.answer.sends)
    (sym is)))
    (answer_lists w reached.made run.0 run.3 run.2 e step
    (record { node = x; taken = t; acts = acts }))
