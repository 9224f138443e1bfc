-- What a turn asks of a running node in a world is an event, and what an event asks, a turn may
-- ask.
use Rattle.std.proofs.Common.{◌≡◌, ℕ, Bool, true, false, not, ◌&&◌, nat_le, [], ◌∷◌, Option, None, Some, length, slice_get, refl, sym, ap, subst, ◌∙◌}
use Rattle.std.proofs.lemmas.Bool.{lt-leb}
use Rattle.std.proofs.lemmas.Option.{slice_get-get_or, slice_get_within}
use Rattle.protocol.specs.Events.{Event, Ask, Built, Claim, Deliver, Failed, Nudge, Restart, Stop, StopIn, is_step, node_of}
use Rattle.faults.specs.Answers.{first_that_applies}
use Rattle.laws.specs.Hosts.{IsOfATurn, WasOffered}
use Rattle.node.specs.Step.{Asked, Comes, Does, IsAsked}
use Rattle.protocol.specs.declared.input.Input.TheVariants as inputs
use Rattle.one_list.proofs.sent.NothingForeign.{get_contains}
use Rattle.world.specs.Happening.{Asks, Happens, Steps, fault_before, is_up, up_of}
use Rattle.world.specs.World.{World, WorldNode}
use Rattle.world.specs.declared.fault.WorldFault.{WorldFault}
use Rattle.world.specs.declared.fault.WorldFault.TheVariants as fault

-- The event is a step of node k, which asks this of it, and only the node may refuse it.
pub record IsEventOf (w : World) (k : ℕ) (asked : Asked) (e : Event) : Type 0 where
  pub of_node : node_of e ≡ k
  pub step : is_step e ≡ true
  pub asks : Asks w e asked
  pub happens : (v : World) → Steps w e v → Happens w e v
  pub passes : fault_before w e ≡ None

-- what a turn asks can be asked
pub can_be : (asked : Asked) → IsOfATurn asked → IsAsked asked
can_be (Comes text) is = tt
can_be (Does (inputs.Claim path host above)) is = is
can_be (Does (inputs.Built path packages)) is = tt
can_be (Does (inputs.Failed path)) is = tt
can_be (Does inputs.Nudge) is = tt
can_be (Does (inputs.Ask path)) is = tt
can_be (Does (inputs.Message m)) is = absurd is

-- the tests before a node is asked for a step
abbrev tested : Bool → Bool → Bool → Option WorldFault
tested beyond up lacks = first_that_applies (
    (false, fault.BadTrace 0)
    ∷ (beyond, fault.NoSuchNode)
    ∷ (not false && not up, fault.NodeDown)
    ∷ (false && up, fault.NodeUp)
    ∷ (lacks, fault.NoSuchDatagram)
    ∷ [])

module _ (w : World) (k : ℕ) (x : WorldNode) (stands : slice_get w.nodes k ≡ Some x)
    (up : x.up ≡ true) where
  passes_tests : (lacks : Bool) → lacks ≡ false
      → tested (nat_le (length w.nodes) k) (is_up w k) lacks ≡ None
  passes_tests lacks none =
      let beyond : nat_le (length w.nodes) k ≡ false =
      lt-leb (length w.nodes) k (slice_get_within w.nodes k x stands) in
      let runs : is_up w k ≡ true = ap up_of stands ∙ up in
      λ i. tested (beyond i) (runs i) (none i)

  -- there is such an event
  pub event_of : (asked : Asked) → IsOfATurn asked → WasOffered w.sent asked
      → (e : Event) × IsEventOf w k asked e
  event_of (Comes text) is (d, within, same) = (
    Deliver d k,
    record {
      of_node = refl;
      step = refl;
      asks = (text, slice_get-get_or w.sent d text within ∙ ap (λ t. Some t) same, refl);
      happens = λ v h. h;
      passes = passes_tests (nat_le (length w.sent) d) (lt-leb (length w.sent) d within);
    },
  )
  event_of (Does (inputs.Claim path host above)) is came = (
    Claim k path host above,
    record {
      of_node = refl;
      step = refl;
      asks = refl;
      happens = λ v h. h;
      passes = passes_tests false refl;
    },
  )
  event_of (Does (inputs.Built path packages)) is came = (
    Built k path packages,
    record {
      of_node = refl;
      step = refl;
      asks = refl;
      happens = λ v h. h;
      passes = passes_tests false refl;
    },
  )
  event_of (Does (inputs.Failed path)) is came = (
    Failed k path,
    record {
      of_node = refl;
      step = refl;
      asks = refl;
      happens = λ v h. h;
      passes = passes_tests false refl;
    },
  )
  event_of (Does inputs.Nudge) is came = (
    Nudge k,
    record {
      of_node = refl;
      step = refl;
      asks = refl;
      happens = λ v h. h;
      passes = passes_tests false refl;
    },
  )
  event_of (Does (inputs.Ask path)) is came = (
    Ask k path,
    record {
      of_node = refl;
      step = refl;
      asks = refl;
      happens = λ v h. h;
      passes = passes_tests false refl;
    },
  )
  event_of (Does (inputs.Message m)) is came = absurd is

-- ---- what an event asks

-- what a step asks, a turn may ask
pub asks_turn : (w : World) (e : Event) (asked : Asked) → is_step e ≡ true → Asks w e asked
    → IsAsked asked → IsOfATurn asked
asks_turn w (Claim n path host above) asked step asks can =
    subst IsOfATurn (sym asks) (subst IsAsked asks can)
asks_turn w (Built n path packages) asked step asks can = subst IsOfATurn (sym asks) tt
asks_turn w (Failed n path) asked step asks can = subst IsOfATurn (sym asks) tt
asks_turn w (Nudge n) asked step asks can = subst IsOfATurn (sym asks) tt
asks_turn w (Ask n path) asked step asks can = subst IsOfATurn (sym asks) tt
asks_turn w (Deliver d n) asked step (text, at, asks) can = subst IsOfATurn (sym asks) tt
asks_turn w (Stop n) asked step asks can = absurd asks
asks_turn w (StopIn e l) asked step asks can =
    absurd (let no : false ≡ true = step in cc)
asks_turn w (Restart n) asked step asks can = absurd asks

-- bytes that arrive were sent
pub asks_sent : (w : World) (e : Event) (asked : Asked) → is_step e ≡ true → Asks w e asked
    → WasOffered w.sent asked
asks_sent w (Claim n path host above) asked step asks = subst (WasOffered w.sent) (sym asks) tt
asks_sent w (Built n path packages) asked step asks = subst (WasOffered w.sent) (sym asks) tt
asks_sent w (Failed n path) asked step asks = subst (WasOffered w.sent) (sym asks) tt
asks_sent w (Nudge n) asked step asks = subst (WasOffered w.sent) (sym asks) tt
asks_sent w (Ask n path) asked step asks = subst (WasOffered w.sent) (sym asks) tt
asks_sent w (Deliver d n) asked step (text, at, asks) =
    subst (WasOffered w.sent) (sym asks) (get_contains w.sent d text at)
asks_sent w (Stop n) asked step asks = absurd asks
asks_sent w (StopIn e l) asked step asks = absurd (let no : false ≡ true = step in cc)
asks_sent w (Restart n) asked step asks = absurd asks
