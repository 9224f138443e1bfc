-- What an event's step sends counts as sent afterwards.
use Rattle.std.proofs.Common.{◌≡◌, ◌∙◌, ℕ, true, false, List, Option, None, Some, ap, refl, subst, sym}
use Rattle.std.specs.Prelude.{Contains, option_map, position}
use Rattle.std.specs.Str.{bytes_eq}
use Rattle.cluster_turns.specs.Events.{event_of, event_of_input}
use Rattle.protocol.specs.Events.{Event, Ask, Built, Claim, Deliver, Failed, Nudge, Restart, Stop, StopIn, event_view, is_step}
use Rattle.protocol.specs.declared.event.Event as declared
use Rattle.faults.specs.Bytes.{Text}
use Rattle.node.specs.Step.{Asked, Comes, Does}
use Rattle.protocol.specs.declared.input.Input.{Input}
use Rattle.protocol.specs.declared.input.Input.TheVariants as inputs
use Rattle.cluster_turns.specs.State.{ClusterState}
use Rattle.cluster_turns.specs.Turn.{HasHappened}
use Rattle.check_turns.specs.Heard.{SendsAreKnown}
use Rattle.world.proofs.SentAdditions.{is_found, sends_there}
use Rattle.world.specs.Happening.{Happens, Steps}
use Rattle.world.specs.Sent.{with_sends}
use Rattle.world.specs.World.{World}

no_event : (e : Event) (X : Type 0) → None ≡ Some e → X
no_event e X is = absurd (let no : ◌≡◌ {A = Option Event} None (Some e) = is in cc)

same_event : (e f : Event) → Some f ≡ Some e → is_step f ≡ true → is_step e ≡ true
same_event e f is step =
    let both : ◌≡◌ {A = Option Event} (Some f) (Some e) = is in
    let same : f ≡ e = cc in ap is_step (sym same) ∙ step

-- the event of a node's own input is a step
own_step : (k : ℕ) (input : Input) (e : Event) → event_of_input k input ≡ Some e → is_step e ≡ true
own_step k (inputs.Claim path host above) e is = same_event e (Claim k path host above) is refl
own_step k (inputs.Built path given) e is = same_event e (Built k path given) is refl
own_step k (inputs.Failed path) e is = same_event e (Failed k path) is refl
own_step k inputs.Nudge e is = same_event e (Nudge k) is refl
own_step k (inputs.Ask path) e is = same_event e (Ask k path) is refl
own_step k (inputs.Message m) e is = no_event e (is_step e ≡ true) is

came_step : (k : ℕ) (o : Option ℕ) (e : Event) → option_map (λ d. Deliver d k) o ≡ Some e
    → is_step e ≡ true
came_step k None e is = no_event e (is_step e ≡ true) is
came_step k (Some d) e is = same_event e (Deliver d k) is refl

pub event_steps : (sent : List Text) (k : ℕ) (asked : Asked) (e : Event)
    → event_of sent (k, asked) ≡ Some e → is_step e ≡ true
event_steps sent k (Does input) e is = own_step k input e is
event_steps sent k (Comes text) e is = came_step k (position (bytes_eq text) sent) e is

-- so it happens as a step
steps : (w v : World) (e : Event) → is_step e ≡ true → Happens w e v → Steps w e v
steps w v (Claim n path host above) step happens = happens
steps w v (Built n path files) step happens = happens
steps w v (Failed n path) step happens = happens
steps w v (Nudge n) step happens = happens
steps w v (Ask n path) step happens = happens
steps w v (Deliver d n) step happens = happens
steps w v (Stop n) step happens = absurd (let no : false ≡ true = step in cc)
steps w v (StopIn e left) step happens = absurd (let no : false ≡ true = step in cc)
steps w v (Restart n) step happens = absurd (let no : false ≡ true = step in cc)

-- what it sends is among what was sent
pub sends_known : {D P : Type 0} (old new : ClusterState D P) (e : declared.Event)
    → is_step (event_view e) ≡ true → HasHappened old new (event_view e)
    → SendsAreKnown old new e
sends_known old new e step happened w is =
    let h = happened w is in
    let s = steps w h.0 (event_view e) step h.1 in
    let sends = s.taken.answer.sends in
    let there : new.sent ≡ with_sends w.sent sends =
    sym h.2.sent ∙ ap (λ (u : World). u.sent) s.leaves in (
      s.node,
      s.taken,
      s.acts,
      λ text among. is_found new.sent text
          (subst (λ (l : List Text). Contains l text) (sym there) (sends_there w.sent sends text among)),
    )
