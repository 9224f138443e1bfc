-- Each event is one act or none, so each run is a list of acts.
use Rattle.std.proofs.Common.{◌≡◌, ℕ, List, true, ap, ⊎_elim, ◌∙◌, sym, true≢false}
use Rattle.claims.specs.AgreedList.{Act}
use Rattle.protocol.specs.Events as events
use Rattle.protocol.specs.Events.{Event, is_step}
use Rattle.node.specs.Step.{nothing}
use Rattle.package_record.specs.Content.{Content}
use Rattle.package_record.specs.Laws.{BuildTextIsReadAgain}
use Rattle.protocol.specs.Answers.{Answer}
use Rattle.protocol.specs.State.{Value}
use Rattle.engine.specs.Division.{Division}
use Rattle.world.specs.Happening.{Happens, Steps}
use Rattle.world.specs.Lists.{IsListAfter}
use Rattle.world.specs.Sent.{with_sends}
use Rattle.world.specs.World.{IsMade, World, member_at}
use Rattle.one_list.specs.MatchingLaws.{IsOneActMore}
use Rattle.one_list.specs.Local.{AreLocal}
use Rattle.one_list.specs.Matches.{Matches}
use Rattle.one_list.specs.Mirrored.{after_all_acts}
use Rattle.one_list.proofs.acts.StopsInDeliveries.{stop_inside_is_act}
use Rattle.one_list.proofs.acts.StepActs.{Acted, acted, has_list, is_one_act_more, only_list}
use Rattle.one_list.proofs.acts.DeliveryActs.{delivery_is_act}
use Rattle.one_list.proofs.acts.InputActs.{ask_is_act, claim_is_act, failed_is_act, nudged_is_act}
use Rattle.one_list.proofs.acts.BuildActs.{build_is_act}
use Rattle.one_list.proofs.acts.WaitingDeliveries.{waiting_is_none}
use Rattle.one_list.proofs.builds.SomeList.{nothing_new}
use Rattle.one_list.proofs.matching.MemberSteps.{list_same}
use Rattle.one_list.proofs.matching.StopActs.{restart_is_act, stop_is_act}

module _ (division : Division) (weights : List ℕ) (acts : List (Act Value)) (w : World)
    (made : IsMade division weights)
    (of : (w.division ≡ division) × (w.weights ≡ weights)) (local : AreLocal w)
    (m : Matches w (after_all_acts division weights acts))
    (again : BuildTextIsReadAgain) where
  -- Each event is one act or none.
  pub event_is_act : (e : Event) (v : World) → Happens w e v
      → IsOneActMore division weights acts w e v
  event_is_act (events.Claim n path host above) v s =
      is_one_act_more division weights acts w made of local m again (events.Claim n path host above)
      v s (claim_is_act division weights acts w made of local m again
      n path host above (acted w v (events.Claim n path host above) s))
  event_is_act (events.Built n path files) v s =
      is_one_act_more division weights acts w made of local m again (events.Built n path files) v s
      (build_is_act division weights acts w made of local m again
      n path files (acted w v (events.Built n path files) s))
  event_is_act (events.Failed n path) v s =
      is_one_act_more division weights acts w made of local m again (events.Failed n path) v s
      (failed_is_act division weights acts w made of local m again
      n path (acted w v (events.Failed n path) s))
  event_is_act (events.Nudge n) v s =
      is_one_act_more division weights acts w made of local m again (events.Nudge n) v s
      (nudged_is_act division weights acts w made of local m again
      n (acted w v (events.Nudge n) s))
  event_is_act (events.Ask n path) v s =
      is_one_act_more division weights acts w made of local m again (events.Ask n path) v s
      (ask_is_act division weights acts w made of local m again
      n path (acted w v (events.Ask n path) s))
  event_is_act (events.Deliver d n) v s = ⊎_elim
      (λ none. waiting_is_none division weights acts w made of local m again d n v s none)
      (λ a. is_one_act_more division weights acts w made of local m again (events.Deliver d n) v s
      a)
      (delivery_is_act division weights acts w made of local m again
      d n (acted w v (events.Deliver d n) s))
  event_is_act (events.Stop n) v s = stop_is_act division weights acts w m n v s
  event_is_act (events.StopIn e l) v s =
      stop_inside_is_act division weights acts w made of local m again e l v s
  event_is_act (events.Restart n) v s = restart_is_act division weights acts w m n v s

  -- Only one list may follow after a step.
  abbrev HasOnlyList : (e : Event) (v : World) → Steps w e v → Type 0
  HasOnlyList e v s = (list : List Content)
      → IsListAfter w (with_sends w.sent s.taken.answer.sends) list → list ≡ v.agreed

  pub step_has_one_list : (e : Event) (v : World) → is_step e ≡ true → (s : Steps w e v)
      → HasOnlyList e v s
  step_has_one_list (events.Claim n path host above) v step s =
      only_list division weights acts w made of local m again (events.Claim n path host above) v s
      (claim_is_act division weights acts w made of local m again
      n path host above (acted w v (events.Claim n path host above) s))
  step_has_one_list (events.Built n path files) v step s =
      only_list division weights acts w made of local m again (events.Built n path files) v s
      (build_is_act division weights acts w made of local m again
      n path files (acted w v (events.Built n path files) s))
  step_has_one_list (events.Failed n path) v step s =
      only_list division weights acts w made of local m again (events.Failed n path) v s
      (failed_is_act division weights acts w made of local m again
      n path (acted w v (events.Failed n path) s))
  step_has_one_list (events.Nudge n) v step s =
      only_list division weights acts w made of local m again (events.Nudge n) v s
      (nudged_is_act division weights acts w made of local m again
      n (acted w v (events.Nudge n) s))
  step_has_one_list (events.Ask n path) v step s =
      only_list division weights acts w made of local m again (events.Ask n path) v s
      (ask_is_act division weights acts w made of local m again
      n path (acted w v (events.Ask n path) s))
  step_has_one_list (events.Deliver d n) v step s = ⊎_elim
      (λ (none : s.taken.answer ≡ nothing (member_at w n s.node)) list is.
      let same = ap (λ (a : Answer). with_sends w.sent a.sends) none in
      list_same w (with_sends w.sent s.taken.answer.sends) list same is
      ∙ sym (list_same w (with_sends w.sent s.taken.answer.sends) v.agreed same s.list))
      (λ a. only_list division weights acts w made of local m again (events.Deliver d n) v s a)
      (delivery_is_act division weights acts w made of local m again
      d n (acted w v (events.Deliver d n) s))
  step_has_one_list (events.Stop n) v step s = absurd (true≢false (sym step))
  step_has_one_list (events.StopIn e l) v step s = absurd (true≢false (sym step))
  step_has_one_list (events.Restart n) v step s = absurd (true≢false (sym step))

  -- Some list follows after each step that a node takes.
  abbrev HasList : (e : Event) → Acted w e → Type 0
  HasList e s = (list : List Content) × IsListAfter w (with_sends w.sent s.taken.answer.sends) list

  pub step_has_list : (e : Event) → is_step e ≡ true → (s : Acted w e) → HasList e s
  step_has_list (events.Claim n path host above) step s =
      has_list division weights acts w made of local m again (events.Claim n path host above) s
      (claim_is_act division weights acts w made of local m again n path host above s)
  step_has_list (events.Built n path files) step s =
      has_list division weights acts w made of local m again (events.Built n path files) s
      (build_is_act division weights acts w made of local m again n path files s)
  step_has_list (events.Failed n path) step s =
      has_list division weights acts w made of local m again (events.Failed n path) s
      (failed_is_act division weights acts w made of local m again n path s)
  step_has_list (events.Nudge n) step s =
      has_list division weights acts w made of local m again (events.Nudge n) s
      (nudged_is_act division weights acts w made of local m again n s)
  step_has_list (events.Ask n path) step s =
      has_list division weights acts w made of local m again (events.Ask n path) s
      (ask_is_act division weights acts w made of local m again n path s)
  step_has_list (events.Deliver d n) step s = ⊎_elim
      (λ (none : s.taken.answer ≡ nothing (member_at w n s.node)).
      nothing_new w (with_sends w.sent s.taken.answer.sends)
      (ap (λ (a : Answer). with_sends w.sent a.sends) none))
      (λ a. has_list division weights acts w made of local m again (events.Deliver d n) s a)
      (delivery_is_act division weights acts w made of local m again d n s)
  step_has_list (events.Stop n) step s = absurd (true≢false (sym step))
  step_has_list (events.StopIn e l) step s = absurd (true≢false (sym step))
  step_has_list (events.Restart n) step s = absurd (true≢false (sym step))
