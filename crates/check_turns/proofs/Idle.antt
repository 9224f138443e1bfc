-- If a turn has nothing to do, no claim is open.
use Rattle.std.proofs.Common.{◌≡◌, ◌∙◌, ◌<◌, ◌+◌, ◌++◌, ℕ, List, [], ◌∷◌, Option, None, Some, ap, arith, drop, is_some, length, refl, slice_get, subst, sym, take, true, false, ⊎_elim, if◌then◌else◌}
use Rattle.std.proofs.lemmas.List.{length-map, length-replicate, take-append-drop}
use Rattle.std.proofs.lemmas.List.Elements.{Contains-append_cases, Contains-append_left, Contains-append_right, Contains-push_cases}
use Rattle.std.proofs.lemmas.List.FromFn.{get_or-range_with_len, length-range_with_len}
use Rattle.std.proofs.lemmas.Option.{slice_get_within}
use Rattle.std.specs.List.{range_with_len}
use Rattle.std.specs.Prelude.{Contains, IfNone}
use Rattle.turn_rules.specs.Choice.{Chosen, Here, IsDoneOr, IsGivenOr, barred_at, comes_to, in_turn}
use Rattle.cluster_turns.specs.Choice.{IsFirstOwn, IsOwnIf, first_job}
use Rattle.turn_rules.specs.Own.{Barred, IsOwnBy, renewed}
use Rattle.turn_rules.specs.Pending.{Pending, above_at}
use Rattle.cluster_turns.specs.Here.{member_up}
use Rattle.protocol.specs.declared.event.Event as declared
use Rattle.faults.specs.Answers.{option_or}
use Rattle.node.specs.State.{LoggedNode, NodeState}
use Rattle.node.specs.Step.{Does}
use Rattle.protocol.specs.Given.{Given}
use Rattle.protocol.specs.State.{OpenClaim, State}
use Rattle.protocol.specs.declared.input.Input.{Input}
use Rattle.cluster_turns.specs.State.{ClusterState, IsWorldOf, here_of, node_view, taken}
use Rattle.cluster_turns.specs.Turn.{IsChosen, IsSame}
use Rattle.check_turns.proofs.Going.{shown_there, state}
use Rattle.check_turns.specs.Listed.{HasNoClaims}
use Rattle.world.proofs.Growth.{leads_later}
use Rattle.world.specs.World.{World, fresh_node, start}
use Rattle.datagram_ports.specs.declared.port.Port.{Ghosts as Port}

-- ---- whose turn it is

-- each number below the count is in the range
in_row : (count k : ℕ) → k < count → Contains (range_with_len 0 count) k
in_row count k below = (
  k,
  omega (arith, length-range_with_len 0 count),
  get_or-range_with_len 0 count k k below ∙ (let none_more : 0 + k ≡ k = omega arith in none_more),
)

-- and in the range in turn
in_turn_too : (next count k : ℕ) → k < count → Contains (in_turn next count) k
in_turn_too next count k below =
    let row = range_with_len 0 count in
    let parts : Contains (take next row ++ drop next row) k =
    subst (λ (l : List ℕ). Contains l k) (sym (take-append-drop next row)) (in_row count k below) in
    ⊎_elim (λ one. Contains-append_right (drop next row) (take next row) k one)
    (λ other. Contains-append_left (drop next row) (take next row) k other)
    (Contains-append_cases (take next row) (drop next row) k parts)

module _ (here : Here) (count : ℕ) (p : Pending) where
  -- if no node does anything, each does nothing
  does_nothing : (ks : List ℕ) → IsFirstOwn here count p ks None → (k : ℕ) → Contains ks k
      → IsOwnIf here count p k (here k) None
  does_nothing [] none k at =
      absurd (let few : at.0 < 0 = at.1 in omega (arith, few))
  does_nothing (j ∷ js) (own, is, later) k at =
      by own is later (λ rest there. does_nothing js rest k there)
    where
      by : (own : Option Input) → IsOwnIf here count p j (here j) own
          → IsDoneOr j own None (IsFirstOwn here count p js None)
          → (IsFirstOwn here count p js None → Contains js k → IsOwnIf here count p k (here k) None)
          → IsOwnIf here count p k (here k) None
      by (Some input) is done later =
          absurd (let no : ◌≡◌ {A = Chosen} None (Some (j, Does input)) = done in cc)
      by None is rest later =
          ⊎_elim
          (λ first. ⊎_elim
          (λ none. absurd (let few : none.0 < 0 = none.1 in omega (arith, few)))
          (λ same. subst (λ (i : ℕ). IsOwnIf here count p i (here i) None) same is)
          (Contains-push_cases [] j k first))
          (λ there. later rest there)
          (Contains-append_cases (j ∷ []) js k at)

-- a member that does nothing has no claim
no_claim : (s : State) (o : Option OpenClaim) (above : Option ℕ) (barred : Barred)
    → IsOwnBy s o above barred None → o ≡ None
no_claim s None above barred none = refl
no_claim s (Some o) above barred does =
    absurd (let no : ◌≡◌ {A = Option Input} None (Some (renewed s o above)) = does in cc)

-- if nothing is chosen, nothing was given before
nobody : (o : Chosen) (later : Type 0) → IsGivenOr o None later → later
nobody None later is = is
nobody (Some x) later done = absurd (let no : ◌≡◌ {A = Chosen} None (Some x) = done in cc)

-- the member of a node, if that is up
abbrev up_state : NodeState → Option State
up_state x = if x.stopped then None else Some x.member

-- ---- of a cluster

-- there is a node for each member
node_count : {D P : Type 0} (c : ClusterState D P) (w : World) → IsWorldOf c w
    → length c.nodes ≡ length c.weights
node_count c w is =
    sym (length-map c.nodes node_view) ∙ ap length (sym is.nodes)
    ∙ (leads_later (start c.division c.weights) w (taken c) is.led).nodes
    ∙ length-replicate (length c.weights) fresh_node

module _ {D P : Type 0} (old new : ClusterState D P) (same : IsSame old new)
    (weights : new.weights ≡ old.weights) (w : World) (is : IsWorldOf new w) where
  count_then : length old.nodes ≡ length old.weights
  count_then =
      sym (length-map old.nodes state) ∙ ap length (sym same.nodes) ∙ length-map new.nodes state
      ∙ node_count new w is ∙ ap length weights

  there : (k : ℕ) (s : State) (o : Option (LoggedNode D)) → slice_get old.nodes k ≡ o
      → member_up o ≡ Some s → k < length old.nodes
  there k s None at up = absurd (let no : ◌≡◌ {A = Option State} None (Some s) = up in cc)
  there k s (Some n) at up = slice_get_within old.nodes k n at

  idle : (port : Port P) (builds : Given) → IsChosen port old new builds None → HasNoClaims old
  idle port builds chosen k s up =
      let here = here_of old in
      let count = length old.weights in
      let first : IsFirstOwn here count old.pending (in_turn old.pending.next count) None =
      nobody (option_or (first_job here count builds) (comes_to here chosen.came))
      (IsFirstOwn here count old.pending (in_turn old.pending.next count) None) chosen.choice in
      let below : k < length old.weights = omega (arith, there k s (slice_get old.nodes k) refl up, count_then) in
      let does = does_nothing here count old.pending (in_turn old.pending.next count) first k
      (in_turn_too old.pending.next count k below) in
      no_claim s s.claim (above_at old.pending k) (barred_at here count old.pending k)
      (subst (λ (o : Option State). IsOwnIf here count old.pending k o None) up does)

  -- it is still so
  idle_then : HasNoClaims old → HasNoClaims new
  idle_then none k s up = by (slice_get new.nodes k) refl up
    where
      by : (o : Option (LoggedNode D)) → slice_get new.nodes k ≡ o → member_up o ≡ Some s
          → s.claim ≡ None
      by None at up = absurd (let no : ◌≡◌ {A = Option State} None (Some s) = up in cc)
      by (Some n) at up =
          let m = shown_there state old.nodes new.nodes same.nodes k n at in
          none k s (ap member_up m.1 ∙ ap up_state (sym m.2) ∙ up)

  pub nothing_left : (port : Port P) (builds : Given) → IsChosen port old new builds None
      → HasNoClaims new
  nothing_left port builds chosen = idle_then (idle port builds chosen)

-- if the turn returned nothing
pub if_nothing : {D P : Type 0} (old new : ClusterState D P) (weights : new.weights ≡ old.weights)
    (w : World) → IsWorldOf new w → (port : Port P) (builds : Given)
    → (o : Option declared.Event) → IfNone o (IsChosen port old new builds None)
    → IfNone o (IsSame old new) → is_some o ≡ false → HasNoClaims new
if_nothing old new weights w is port builds None chosen same none =
    nothing_left old new same weights w is port builds chosen
if_nothing old new weights w is port builds (Some e) chosen same none =
    absurd (let no : true ≡ false = none in cc)
