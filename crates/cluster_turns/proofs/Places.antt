-- Nodes by number.
use Rattle.std.proofs.Common.{◌≡◌, ◌<◌, ℕ, Bool, true, false, List, Option, None, Some, length, slice_get, slice_set, refl, sym, ap, ◌∙◌, inl, inr, if◌then◌else◌}
use Rattle.std.proofs.lemmas.List.{set-get_or}
use Rattle.std.proofs.lemmas.Option.{slice_get_read, slice_get_within}
use Rattle.std.specs.Prelude.{◌⊎◌, is_some, slice_index_or}
use Rattle.node.specs.State.{LoggedNode}
use Rattle.node.specs.declared.fault.NodeFault.{NodeFault}
use Rattle.node.specs.declared.fault.NodeFault.TheVariants as fault
use Rattle.turn_rules.specs.declared.fault.TurnFault.TheVariants as refused
use Rattle.turn_rules.specs.CausedSteps.{IsPart}
use Rattle.turn_rules.specs.declared.caused_step.CausedStep.{CausedStep}
use Rattle.protocol.specs.declared.input.Input.{Input}
use Rattle.cluster_turns.specs.Here.{member_up, here_in}
use Rattle.cluster_turns.specs.Choosing.{IsPartAt, told}

-- a refusal is reported as out of memory or as the node's own
pub told_is : (f : NodeFault) → (told f ≡ refused.Memory) ⊎ (told f ≡ refused.Node f)
told_is fault.Memory = inl refl
told_is (fault.Refused r) = inr refl
told_is (fault.Log f) = inr refl
told_is fault.Stopped = inr refl
told_is (fault.Foreign f) = inr refl

-- a node that is here is one of the nodes
pub within : {D : Type 0} (nodes : List (LoggedNode D)) (k : ℕ)
    → is_some (here_in nodes k) ≡ true → k < length nodes
within {D} nodes k some = by (slice_get nodes k) refl some
  where
    by : (o : Option (LoggedNode D)) → slice_get nodes k ≡ o → is_some (member_up o) ≡ true
        → k < length nodes
    by None there some = absurd (let no : false ≡ true = some in cc)
    by (Some n) there some = slice_get_within nodes k n there

-- it was found that a node is here
pub up_seen : {D : Type 0} (nodes seen : List (LoggedNode D)) (k : ℕ) (is_up : Bool)
    → seen ≡ nodes → is_up ≡ is_some (here_in seen k) → is_up ≡ true
    → is_some (here_in nodes k) ≡ true
up_seen nodes seen k is_up same is up =
    sym (is ∙ ap (λ xs. is_some (here_in xs k)) same) ∙ up

module _ {D : Type 0} (nodes : List (LoggedNode D)) (k : ℕ) (n : LoggedNode D)
    (stands : slice_get nodes k ≡ Some n) where
  -- a node that is up is here
  pub is_here : n.node.stopped ≡ false → here_in nodes k ≡ Some n.node.member
  is_here up = ap member_up stands
      ∙ ap (λ b. if b then None else Some n.node.member) up

  -- a stopped node is not
  pub none_here : n.node.stopped ≡ true → here_in nodes k ≡ None
  none_here down = ap member_up stands
      ∙ ap (λ b. if b then None else Some n.node.member) down

  -- a node that is here is up
  pub up_here : is_some (here_in nodes k) ≡ true → n.node.stopped ≡ false
  up_here some = by n.node.stopped refl
    where
      by : (b : Bool) → n.node.stopped ≡ b → b ≡ false
      by true down =
          absurd (let no : false ≡ true = sym (ap is_some (none_here down)) ∙ some in cc)
      by false up = refl

  -- its part is that of the node with its number
  pub part_at : n.node.stopped ≡ false → (own : Option Input) (r : Option CausedStep)
      → IsPart n own r → IsPartAt nodes k own r
  part_at up None None part = part
  part_at up None (Some r) part = part
  part_at up (Some input) None part = part
  part_at up (Some input) (Some r) part =
      record { node = n; stands = stands; up = up; readied = part }

module _ {D : Type 0} (nodes : List (LoggedNode D)) (k : ℕ) (n : LoggedNode D)
    (value : n ≡ slice_index_or nodes k n) where
  -- what an index reads is the element at that place
  pub stands_at : k < length nodes → slice_get nodes k ≡ Some n
  stands_at below = slice_get_read nodes (length nodes) k n refl below value

  -- it is put back unchanged
  pub put_back : (m : LoggedNode D) → m ≡ n → slice_set nodes k m ≡ nodes
  put_back m same = ap (slice_set nodes k) (same ∙ value) ∙ set-get_or nodes k n
