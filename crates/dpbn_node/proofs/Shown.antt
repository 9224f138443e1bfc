-- The line on a node.
use Rattle.std.proofs.Common.{◌≡◌, ℕ, Bool, true, false, Option, None, Some, MatchOption, sym, ap, subst, if◌then◌else◌}
use Rattle.dpbn_node.specs.Runs.{letters_of}
use Rattle.engine.specs.State.{AreCounts, State}
use Rattle.engine.specs.declared.Counts.{Counts}
use Rattle.faults.specs.Bytes.{Text}
use Rattle.node.specs.State.{NodeState}
use Rattle.program_io.specs.NodeLine.{IsLineOf, node_line}
use Rattle.protocol.specs.State.{engine_of}

module _ (me : ℕ) (n : NodeState) where
  -- its letters, if it is up or down
  letters_if : (b : Bool) → n.stopped ≡ b
      → letters_of n ≡ (if b then None else Some (engine_of n.member))
  letters_if b e = ap (λ c. if c then None else Some (engine_of n.member)) e

  -- the line that is printed says what the node shows
  pub line_is : (o : Option Counts)
      → MatchOption o (n.stopped ≡ true)
      (λ counts. (n.stopped ≡ false) × AreCounts (engine_of n.member) counts)
      → (line : Text) → line ≡ node_line me o → IsLineOf me (letters_of n) line
  line_is None down line told =
      subst (λ (l : Option State). IsLineOf me l line) (sym (letters_if true down)) told
  line_is (Some counts) (up, are) line told =
      subst (λ (l : Option State). IsLineOf me l line) (sym (letters_if false up))
      (counts, are, told)
