-- A node takes a received datagram.
use Rattle.std.proofs.Common.{◌≡◌, ℕ, Bool, true, false, List, Option, None, Some, Err, refl, slice_get, slice_set, sym, ap, subst, ◌∙◌, inl, inr}
use Rattle.std.specs.Prelude.{◌⊎◌, is_some, option_map, slice_index_or}
use Rattle.turn_rules.specs.Choice.{Chosen, Here, comes_to}
use Rattle.faults.specs.Bytes.{Text, is_among}
use Rattle.node.specs.Calls.{left_by}
use Rattle.node.specs.State.{LoggedNode}
use Rattle.node.specs.Step.{Asked, Comes, Takes}
use Rattle.node.specs.declared.fault.NodeFault.{NodeFault}
use Rattle.node.specs.declared.fault.NodeFault.TheVariants as fault
use Rattle.turn_rules.specs.CausedSteps.{IsCausedStep}
use Rattle.datagram_ports.specs.Kept.{Arrived}
use Rattle.protocol.specs.State.{State}
use Rattle.cluster_turns.proofs.Places.{is_here, put_back, stands_at, up_here, within}
use Rattle.cluster_turns.specs.declared.chosen.Chosen.{Chosen as PreparedStep}
use Rattle.cluster_turns.specs.Choosing.{IsChosenAs, NoneIsForeign}
use Rattle.cluster_turns.specs.Here.{here_in}
use Rattle.cluster_turns.specs.inside.Cases.{WasSent}

module _ {D : Type 0} (nodes : List (LoggedNode D)) (k : ℕ) (text : Text) (n : LoggedNode D)
    (stands : slice_get nodes k ≡ Some n) (up : n.node.stopped ≡ false) where
  -- the node is asked to take it
  asked_so : comes_to (here_in nodes) (Some (k, text)) ≡ Some (k, Comes text)
  asked_so = ap (option_map (λ (s : State). (k, Comes text))) (is_here nodes k n stands up)

  module _ (sent : List Text) (known : NoneIsForeign nodes sent)
      (among : is_among sent text ≡ true) where
    -- it refuses nothing that was sent
    only_memory : (f : NodeFault)
        → (f ≡ fault.Memory) ⊎ Takes n.node (Comes text) (Err f) → f ≡ fault.Memory
    only_memory f (inl memory) = memory
    only_memory f (inr takes) = absurd (known k text f among
        (record { node = n; stands = stands; up = up; refuses = takes }))

    -- if memory runs out, it is unchanged
    stays : (m : LoggedNode D) (f : NodeFault)
        → (f ≡ fault.Memory) ⊎ Takes n.node (Comes text) (Err f)
        → m.log ≡ n.log → m.node ≡ left_by n.node (Comes text) f → m ≡ n
    stays m f refuses log left =
        let node : m.node ≡ n.node =
        left ∙ ap (left_by n.node (Comes text)) (only_memory f refuses) in
        λ i. record { node = node i; log = log i }

-- it was found that the bytes were sent
pub sent_seen : (sent : List Text) (text seen : Text) (is_sent : Bool) → seen ≡ text
    → is_sent ≡ is_among sent seen → is_sent ≡ true → is_among sent text ≡ true
sent_seen sent text seen is_sent same is among = sym (is ∙ ap (is_among sent) same) ∙ among

-- there is something to take if it is for a node that is up
pub some_came : (here : Here) (k : ℕ) (text : Text) (came : Arrived) → came ≡ Some (k, text)
    → is_some (here k) ≡ true → is_some (comes_to here came) ≡ true
some_came here k text came is some =
    ap (λ (c : Arrived). is_some (comes_to here c)) is ∙ by (here k) some
  where
    by : (o : Option State) → is_some o ≡ true
        → is_some (option_map {U = ℕ × Asked} (λ (s : State). (k, Comes text)) o) ≡ true
    by None none = absurd (let bad : false ≡ true = none in cc)
    by (Some s) here_is = refl

-- ---- the results for a borrowed node

module _ {D : Type 0} (nodes : List (LoggedNode D)) (k : ℕ) (text : Text) (came : Arrived)
    (arrived : came ≡ Some (k, text)) (n m : LoggedNode D)
    (value : n ≡ slice_index_or nodes k n) (some : is_some (here_in nodes k) ≡ true) where
  stands : slice_get nodes k ≡ Some n
  stands = stands_at nodes k n value (within nodes k some)

  up : n.node.stopped ≡ false
  up = up_here nodes k n stands some

  comes : comes_to (here_in nodes) came ≡ Some (k, Comes text)
  comes = ap (comes_to (here_in nodes)) arrived ∙ asked_so nodes k text n stands up

  -- so there is something to take
  pub some_comes : is_some (comes_to (here_in nodes) came) ≡ true
  some_comes = ap is_some comes

  pub taken_lent : m ≡ n → (r : PreparedStep) → r.node ≡ k → IsCausedStep m (Comes text) r.readied
      → IsChosenAs nodes (comes_to (here_in nodes) came) (Some r)
  taken_lent same r at readied =
      subst (λ c. IsChosenAs nodes c (Some r)) (sym comes) (
        at,
        record {
          node = n;
          stands = stands;
          up = up;
          readied = subst (λ x. IsCausedStep x (Comes text) r.readied) same readied;
        },
      )

  module _ (sent : List Text) (among : is_among sent text ≡ true) where
    -- what it takes was sent
    pub known_lent : WasSent nodes sent came
    known_lent j other is =
        let both : ◌≡◌ {A = Chosen} (Some (k, Comes text)) (Some (j, Comes other)) =
        sym comes ∙ is in
        let pair : ◌≡◌ {A = ℕ × Asked} (k, Comes text) (j, Comes other) = cc in
        let asked : Comes text ≡ Comes other = ap (λ (x : ℕ × Asked). x.1) pair in
        let same : text ≡ other = cc in
        ap (is_among sent) (sym same) ∙ among

    module _ (known : NoneIsForeign nodes sent) (f : NodeFault)
        (refuses : (f ≡ fault.Memory) ⊎ Takes n.node (Comes text) (Err f)) where
      -- it refuses only because memory ran out
      pub wants_lent : f ≡ fault.Memory
      wants_lent = only_memory nodes k text n stands up sent known among f refuses

      -- and then it is put back unchanged
      pub stays_lent : m.log ≡ n.log → m.node ≡ left_by n.node (Comes text) f
          → slice_set nodes k m ≡ nodes
      stays_lent log left = put_back nodes k n value m
          (stays nodes k text n stands up sent known among m f refuses log left)
