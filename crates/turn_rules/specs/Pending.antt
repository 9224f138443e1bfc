-- The state that is kept between turns.
use Rattle.std.specs.Prelude.{◌+◌, ◌==◌, ◌++◌, ℕ, Bool, List, [], ◌∷◌, Option, None, Some, replicate, slice_index_or, slice_set, if◌then◌else◌}
use Rattle.std.specs.List.{list_any}
use Rattle.node.specs.Step.{Asked, Comes, Does}
use Rattle.protocol.specs.State.{OpenClaim, State}
use Rattle.protocol.specs.declared.input.Input.{Input}
use Rattle.protocol.specs.declared.input.Input.TheVariants as inputs
use Rattle.turn_rules.specs.Nays.{above_after}

-- The state that is kept between turns. (A job without an answer is that of a claim that waits for
-- a build, so it isn't kept here.)
pub record Pending : Type 0 where
  -- the units of which a build failed, each once
  pub failed : List ℕ
  -- by node, the greatest round of the greater claims that nays to its open claim named
  pub above : List (Option ℕ)
  -- the node after the one that last did something on its own initiative
  pub next : ℕ

-- the state at the start
abbrev pub nothing_kept : Pending
nothing_kept = record { failed = []; above = replicate 9 None; next = 0 }

-- Whether a build of the unit failed.
abbrev pub has_failed : Pending → ℕ → Bool
has_failed p u = list_any (λ v. u == v) p.failed

-- the round that nays named to the node
abbrev pub above_at : Pending → ℕ → Option ℕ
above_at p k = slice_index_or p.above k None

-- the state with this round for the node
abbrev pub with_above : Pending → ℕ → Option ℕ → Pending
with_above p k above = record p { above = slice_set p.above k above }

-- the state after a build failed for the claim
abbrev pub with_failed : Pending → Option OpenClaim → Pending
with_failed p None = p
with_failed p (Some o) =
    if has_failed p o.unit then p else record p { failed = p.failed ++ o.unit ∷ [] }

-- the state after node k, with this member, took the input
abbrev pub after_input : Pending → ℕ → State → Input → Pending
after_input p k s (inputs.Claim path host above) = record (with_above p k None) { next = k + 1 }
after_input p k s (inputs.Built path given) = p
after_input p k s (inputs.Failed path) = with_failed p s.claim
after_input p k s inputs.Nudge = record p { next = k + 1 }
after_input p k s (inputs.Ask path) = p
after_input p k s (inputs.Message m) = p

-- the state after node k, with this member, did this
abbrev pub kept_after : Pending → ℕ → State → Asked → Pending
kept_after p k s (Does input) = after_input p k s input
kept_after p k s (Comes text) = with_above p k (above_after s s.claim (above_at p k) text)
