-- The event of what a node is asked.
use Rattle.std.proofs.Common.{◌≡◌, ◌<◌, ℕ, Bool, true, false, not, ◌&&◌, nat_le, List, [], ◌∷◌, Option, None, Some, get_or, length, slice_get, refl, sym, ap, subst, ◌∙◌}
use Rattle.std.proofs.lemmas.Bool.{lt-leb}
use Rattle.std.proofs.lemmas.List.Quantifiers.{position-Some}
use Rattle.std.proofs.lemmas.Option.{slice_get-get_or, slice_get_within}
use Rattle.std.specs.Prelude.{option_map, position}
use Rattle.std.specs.Str.{bytes_eq}
use Rattle.cluster_turns.specs.Events.{event_of, event_of_input}
use Rattle.protocol.specs.Events.{Event, Claim, Built, Failed, Nudge, Ask, Deliver, is_step, node_of}
use Rattle.faults.specs.Answers.{first_that_applies}
use Rattle.faults.specs.Bytes.{Text}
use Rattle.node.specs.Step.{Asked, Comes, Does}
use Rattle.protocol.specs.declared.input.Input.{Input}
use Rattle.protocol.specs.declared.input.Input.TheVariants as inputs
use Rattle.cluster_turns.proofs.OneStep.{one_asked}
use Rattle.engine.proofs.Places.{same_bytes}
use Rattle.world.specs.Happening.{Asks, Happens, Steps, fault_before, is_up, leaves_note, up_of}
use Rattle.world.specs.World.{World, WorldNode}
use Rattle.world.specs.declared.fault.WorldFault.{WorldFault}
use Rattle.world.specs.declared.fault.WorldFault.TheVariants as fault

-- Node k is up in the world, in which these texts were sent.
pub record IsUpAt (sent : List Text) (k : ℕ) (w : World) : Type 0 where
  pub node : WorldNode
  pub stands : slice_get w.nodes k ≡ Some node
  pub up : node.up ≡ true
  pub sent_is : w.sent ≡ sent

-- The event is a step of this node, which it asks this. If the node is up, only the node may refuse
-- it.
pub record IsEventOf (sent : List Text) (k : ℕ) (asked : Asked) (e : Event) : Type 0 where
  pub of_node : node_of e ≡ k
  pub step : is_step e ≡ true
  pub noted : leaves_note e ≡ true
  pub asks : (w : World) → w.sent ≡ sent → Asks w e asked
  pub happens : (w v : World) → Steps w e v → Happens w e v
  pub passes : (w : World) → IsUpAt sent k w → fault_before w e ≡ None

-- ---- the tests before a node is asked

-- the tests of a step
abbrev tested : Bool → Bool → Bool → Option WorldFault
tested beyond up lacks = first_that_applies (
    (false, fault.BadTrace 0)
    ∷ (beyond, fault.NoSuchNode)
    ∷ (not false && not up, fault.NodeDown)
    ∷ (false && up, fault.NodeUp)
    ∷ (lacks, fault.NoSuchDatagram)
    ∷ [])

passes_tests : (sent : List Text) (k : ℕ) (w : World) → IsUpAt sent k w → (lacks : Bool)
    → lacks ≡ false → tested (nat_le (length w.nodes) k) (is_up w k) lacks ≡ None
passes_tests sent k w is lacks none =
    let beyond : nat_le (length w.nodes) k ≡ false =
    lt-leb (length w.nodes) k (slice_get_within w.nodes k is.node is.stands) in
    let up : is_up w k ≡ true = ap up_of is.stands ∙ is.up in
    λ i. tested (beyond i) (up i) (none i)

-- ---- of each kind

module _ (sent : List Text) (k : ℕ) where
  by_input : (input : Input) (e : Event) → event_of_input k input ≡ Some e
      → IsEventOf sent k (Does input) e
  by_input (inputs.Claim path host above) e is =
      let known : ◌≡◌ {A = Option Event} (Some (Claim k path host above)) (Some e) = is in
      let same : Claim k path host above ≡ e = cc in
      subst (IsEventOf sent k (Does (inputs.Claim path host above))) same (record {
        of_node = refl;
        step = refl;
        noted = refl;
        asks = λ w s. refl;
        happens = λ w v h. h;
        passes = λ w is. passes_tests sent k w is false refl;
      })
  by_input (inputs.Built path given) e is =
      let known : ◌≡◌ {A = Option Event} (Some (Built k path given)) (Some e) = is in
      let same : Built k path given ≡ e = cc in
      subst (IsEventOf sent k (Does (inputs.Built path given))) same (record {
        of_node = refl;
        step = refl;
        noted = refl;
        asks = λ w s. refl;
        happens = λ w v h. h;
        passes = λ w is. passes_tests sent k w is false refl;
      })
  by_input (inputs.Failed path) e is =
      let known : ◌≡◌ {A = Option Event} (Some (Failed k path)) (Some e) = is in
      let same : Failed k path ≡ e = cc in
      subst (IsEventOf sent k (Does (inputs.Failed path))) same (record {
        of_node = refl;
        step = refl;
        noted = refl;
        asks = λ w s. refl;
        happens = λ w v h. h;
        passes = λ w is. passes_tests sent k w is false refl;
      })
  by_input inputs.Nudge e is =
      let known : ◌≡◌ {A = Option Event} (Some (Nudge k)) (Some e) = is in
      let same : Nudge k ≡ e = cc in
      subst (IsEventOf sent k (Does inputs.Nudge)) same (record {
        of_node = refl;
        step = refl;
        noted = refl;
        asks = λ w s. refl;
        happens = λ w v h. h;
        passes = λ w is. passes_tests sent k w is false refl;
      })
  by_input (inputs.Ask path) e is =
      let known : ◌≡◌ {A = Option Event} (Some (Ask k path)) (Some e) = is in
      let same : Ask k path ≡ e = cc in
      subst (IsEventOf sent k (Does (inputs.Ask path))) same (record {
        of_node = refl;
        step = refl;
        noted = refl;
        asks = λ w s. refl;
        happens = λ w v h. h;
        passes = λ w is. passes_tests sent k w is false refl;
      })
  by_input (inputs.Message m) e is =
      absurd (let no : ◌≡◌ {A = Option Event} None (Some e) = is in cc)

  by_bytes : (text : Text) (o : Option ℕ) → position (bytes_eq text) sent ≡ o → (e : Event)
      → option_map (λ d. Deliver d k) o ≡ Some e → IsEventOf sent k (Comes text) e
  by_bytes text None at e is =
      absurd (let no : ◌≡◌ {A = Option Event} None (Some e) = is in cc)
  by_bytes text (Some d) at e is =
      let known : ◌≡◌ {A = Option Event} (Some (Deliver d k)) (Some e) = is in
      let same : Deliver d k ≡ e = cc in
      subst (IsEventOf sent k (Comes text)) same (record {
        of_node = refl;
        step = refl;
        noted = refl;
        asks = λ w s. (text, ap (λ l. slice_get l d) s ∙ there, refl);
        happens = λ w v h. h;
        passes = λ w is. passes_tests sent k w is (nat_le (length w.sent) d)
            (ap (λ l. nat_le (length l) d) is.sent_is ∙ lt-leb (length sent) d found.0);
      })
    where
      found : (d < length sent) × (bytes_eq text (get_or sent d text) ≡ true)
          × ((j : ℕ) → j < d → bytes_eq text (get_or sent j text) ≡ false)
      found = position-Some (bytes_eq text) sent d text at

      there : slice_get sent d ≡ Some text
      there = slice_get-get_or sent d text found.0
          ∙ ap (λ t. Some t) (sym (same_bytes text (get_or sent d text) found.1))

  -- what holds of the event of what the node is asked
  pub event_is : (asked : Asked) (e : Event) → event_of sent (k, asked) ≡ Some e
      → IsEventOf sent k asked e
  event_is (Does input) e is = by_input input e is
  event_is (Comes text) e is = by_bytes text (position (bytes_eq text) sent) refl e is

-- an event is of one node, which it asks one thing
pub one_chosen : (w : World) (sent : List Text) → w.sent ≡ sent → (a b : ℕ × Asked) (e : Event)
    → event_of sent a ≡ Some e → event_of sent b ≡ Some e → a ≡ b
one_chosen w sent s a b e first second =
    let x = event_is sent a.0 a.1 e first in
    let y = event_is sent b.0 b.1 e second in
    let number : a.0 ≡ b.0 = sym x.of_node ∙ y.of_node in
    let asked : a.1 ≡ b.1 = one_asked w e a.1 b.1 (x.asks w s) (y.asks w s) in
    λ i. (number i, asked i)
