-- What a turn does with what the port returned.
use Rattle.std.proofs.Common.{◌≡◌, ◌∙◌, ◌++◌, ℕ, Bool, true, false, List, [], ◌∷◌, Option, None, Some, Result, Ok, Err, IfErr, IfOk, ap, get_or, is_some, length, refl, slice_get, subst, sym}
use Rattle.std.proofs.lemmas.List.{append_cancel_left}
use Rattle.std.proofs.lemmas.List.Quantifiers.{position-Some}
use Rattle.std.proofs.lemmas.Option.{slice_get-get_or}
use Rattle.std.specs.Prelude.{IfNone, IfSome, option_map, position}
use Rattle.std.specs.Str.{bytes_eq}
use Rattle.turn_rules.specs.Choice.{Chosen, Here, IsGivenOr, comes_to, in_turn}
use Rattle.cluster_turns.specs.Choice.{IsFirstOwn, first_job, has_job}
use Rattle.turn_rules.specs.declared.fault.TurnFault.{TurnFault}
use Rattle.turn_rules.specs.declared.fault.TurnFault.TheVariants as refused
use Rattle.cluster_turns.specs.Choosing.{looked_for}
use Rattle.cluster_turns.specs.Events.{event_of}
use Rattle.protocol.specs.Events.{Event, Deliver, event_view}
use Rattle.protocol.specs.declared.event.Event as declared
use Rattle.faults.specs.Answers.{option_or}
use Rattle.faults.specs.Bytes.{Text, is_among}
use Rattle.node.specs.Step.{Asked, Comes}
use Rattle.datagram_ports.specs.Kept.{Arrived, GoesOnBy}
use Rattle.protocol.specs.Given.{Given}
use Rattle.protocol.specs.State.{State}
use Rattle.cluster_turns.specs.Faults.{IsTurnFault}
use Rattle.cluster_turns.specs.State.{ClusterState, here_of}
use Rattle.cluster_turns.specs.Turn.{IsChosen, IsEventChosen}
use Rattle.check_turns.specs.Heard.{GaveJust, HearsIt}
use Rattle.engine.proofs.Places.{same_bytes}
use Rattle.datagram_ports.specs.declared.port.Port.{Ghosts as Port}

-- what the port returned was asked for, and there was no job
looked : (job : Bool) (came c : Arrived) → looked_for job came ≡ c ∷ [] → (job ≡ false) × (came ≡ c)
looked true came c is = absurd (let no : ◌≡◌ {A = List Arrived} [] (c ∷ []) = is in cc)
looked false came c is =
    let both : ◌≡◌ {A = List Arrived} (came ∷ []) (c ∷ []) = is in (refl, (let same : came ≡ c = cc in same))

gave : (more before : List Arrived) (c : Arrived) (x y : Option (List Arrived)) → x ≡ Some before
    → y ≡ Some (before ++ c ∷ []) → GoesOnBy more x y → more ≡ c ∷ []
gave more before c x y first last on =
    let here : (before ++ c ∷ []) ≡ (before ++ more) =
    subst (λ (z : Option (List Arrived)). GoesOnBy more (Some before) z) last
    (subst (λ (z : Option (List Arrived)). GoesOnBy more z y) first on) in
    sym (append_cancel_left before (c ∷ []) more here)

-- without a job, a datagram for a node that is up is chosen
no_job : (o : Chosen) → is_some o ≡ false → o ≡ None
no_job None none = refl
no_job (Some x) none = absurd (let no : true ≡ false = none in cc)

module _ {D P : Type 0} (port : Port P) (old new : ClusterState D P) (builds : Given) (k : ℕ)
    (text : Text) (s : State) (gave_just : GaveJust port old.port new.port (Some (k, text)))
    (sent : is_among old.sent text ≡ true) (up : here_of old k ≡ Some s) where
  abbrev here : Here
  here = here_of old

  abbrev count : ℕ
  count = length old.weights

  chosen_so : (chosen : Chosen) → IsChosen port old new builds chosen
      → chosen ≡ Some (k, Comes text)
  chosen_so chosen is =
      let told = looked (has_job here count builds) is.came (Some (k, text))
      (gave (looked_for (has_job here count builds) is.came) gave_just.before (Some (k, text))
      (port.given old.port) (port.given new.port) gave_just.first gave_just.last is.looked) in
      let none : first_job here count builds ≡ None =
      no_job (first_job here count builds) told.0 in
      let its : option_or (first_job here count builds) (comes_to here is.came)
      ≡ Some (k, Comes text) =
      ap (λ (o : Chosen). option_or o (comes_to here is.came)) none
      ∙ ap (comes_to here) told.1 ∙ ap (option_map (λ (x : State). (k, Comes text))) up in
      subst (λ (o : Chosen). IsGivenOr o chosen
      (IsFirstOwn here count old.pending (in_turn old.pending.next count) chosen)) its is.choice

  -- the event of a text is its delivery
  delivered : (o : Option ℕ) (e : Event) → position (bytes_eq text) old.sent ≡ o
      → option_map (λ d. Deliver d k) o ≡ Some e
      → (d : ℕ) × (slice_get old.sent d ≡ Some text) × (e ≡ Deliver d k)
  delivered None e at is = absurd (let no : ◌≡◌ {A = Option Event} None (Some e) = is in cc)
  delivered (Some d) e at is =
      let both : ◌≡◌ {A = Option Event} (Some (Deliver d k)) (Some e) = is in
      let same : Deliver d k ≡ e = cc in
      let p = position-Some (bytes_eq text) old.sent d text at in
      let its : text ≡ get_or old.sent d text = same_bytes text (get_or old.sent d text) p.1 in (
        d,
        slice_get-get_or old.sent d text p.0 ∙ ap (λ (t : Text). Some t) (sym its),
        sym same,
      )

  its_event : (e : declared.Event) → IsEventChosen port old new builds (event_view e)
      → (f : declared.Event) × (Some e ≡ Some f) × (d : ℕ)
      × (slice_get old.sent d ≡ Some text) × (event_view f ≡ Deliver d k)
  its_event e is =
      let so : ◌≡◌ {A = Chosen} (Some is.chosen) (Some (k, Comes text)) =
      chosen_so (Some is.chosen) is.is_chosen in
      let same : is.chosen ≡ (k, Comes text) = cc in
      let told : event_of old.sent (k, Comes text) ≡ Some (event_view e) =
      ap (event_of old.sent) (sym same) ∙ is.event in
      let d = delivered (position (bytes_eq text) old.sent) (event_view e) refl told in
      (e, refl, d.0, d.1, d.2)

  not_none : (X : Type 0) → IsChosen port old new builds None → X
  not_none X is =
      absurd (let no : ◌≡◌ {A = Chosen} None (Some (k, Comes text)) = chosen_so None is in cc)

  was_sent : (f : TurnFault) → IsTurnFault port old new builds f → f ≡ refused.NotSent → ⊥
  was_sent refused.Memory why e = let no : refused.Memory ≡ refused.NotSent = e in cc
  was_sent (refused.Node g) why e = let no : refused.Node g ≡ refused.NotSent = e in cc
  was_sent (refused.Down j) why e = let no : refused.Down j ≡ refused.NotSent = e in cc
  was_sent refused.NotSent (j, other, is, strange) e =
      let so : ◌≡◌ {A = Chosen} (Some (j, Comes other)) (Some (k, Comes text)) =
      chosen_so (Some (j, Comes other)) is in
      let pairs : ◌≡◌ {A = ℕ × Asked} (j, Comes other) (k, Comes text) = cc in
      let same : Comes other ≡ Comes text = ap (λ (x : ℕ × Asked). x.1) pairs in
      let texts : other ≡ text = cc in
      let no : true ≡ false = sym sent ∙ ap (is_among old.sent) (sym texts) ∙ strange in cc
  was_sent refused.NotFresh why e = absurd why

  -- so the turn receives it
  pub hears : (r : Result (Option declared.Event) TurnFault)
      → IfOk r (λ o. IfSome o (λ e. IsEventChosen port old new builds (event_view e)))
      → IfOk r (λ o. IfNone o (IsChosen port old new builds None))
      → IfErr r (IsTurnFault port old new builds) → HearsIt old k text r
  hears (Ok None) chosen nothing why = not_none (HearsIt old k text (Ok None)) nothing
  hears (Ok (Some e)) chosen nothing why = record {
    sent = λ bad. (let no : ◌≡◌ {A = Result (Option declared.Event) TurnFault} (Ok (Some e)) (Err refused.NotSent) = bad in cc);
    event = its_event e chosen;
  }
  hears (Err f) chosen nothing why = record {
    sent = λ bad. was_sent f why
        (let both : ◌≡◌ {A = Result (Option declared.Event) TurnFault} (Err f) (Err refused.NotSent) = bad in
        let same : f ≡ refused.NotSent = cc in same);
    event = tt;
  }
