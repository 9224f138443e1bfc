-- The line on a node, and the status.
use Rattle.std.proofs.Common.{◌≡◌, ℕ, Bool, true, false, Option, None, Some, MatchOption, sym, ap, subst, if◌then◌else◌}
use Rattle.dpbn_build.specs.Build.{IsLineWith, status_of}
use Rattle.dpbn_node.specs.Runs.{letters_of}
use Rattle.engine.specs.State.{AreCounts, State}
use Rattle.engine.specs.declared.Counts.{Counts}
use Rattle.faults.specs.Bytes.{Text}
use Rattle.node.specs.State.{NodeState}
use Rattle.program_io.specs.NodeLine.{node_line}
use Rattle.protocol.specs.State.{engine_of}

module _ (me : ℕ) (n : NodeState) where
  -- its letters, as it is up or down
  letters_if : (b : Bool) → n.stopped ≡ b
      → letters_of n ≡ (if b then None else Some (engine_of n.member))
  letters_if b e = ap (λ c. if c then None else Some (engine_of n.member)) e

  -- the printed line and the status show its letters
  pub line_with : (o : Option Counts)
      → MatchOption o (n.stopped ≡ true)
      (λ counts. (n.stopped ≡ false) × AreCounts (engine_of n.member) counts)
      → (line : Text) → line ≡ node_line me o → (status : ℕ) → status ≡ status_of o
      → IsLineWith me (letters_of n) line status
  line_with None down line told status is =
      subst (λ (l : Option State). IsLineWith me l line status) (sym (letters_if true down))
      (told, is)
  line_with (Some counts) (up, are) line told status is =
      subst (λ (l : Option State). IsLineWith me l line status) (sym (letters_if false up))
      (counts, are, told, is)
