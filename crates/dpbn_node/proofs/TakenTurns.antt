-- Turns that count.
use Rattle.std.proofs.Common.{◌≡◌, ◌+◌, ◌++◌, ◌∙◌, ℕ, Bool, [], ◌∷◌, ap, cond, refl, sym}
use Rattle.std.proofs.lemmas.List.Sums.{sum_by_push}
use Rattle.dpbn_node.specs.Node.{HaveTaken}
use Rattle.lone_node.proofs.Turns.{TurnsLead-append}
use Rattle.lone_node.specs.Handed.{Handed}
use Rattle.lone_node.specs.State.{SoloState}
use Rattle.lone_node.specs.Turns.{IsTurn, Outcome, counts}
use Rattle.stable_record.specs.declared.disk.Disk.{Ghosts as Disk}
use Rattle.datagram_ports.specs.declared.port.Port.{Ghosts as Port}

module _ {D P : Type 0} (disk : Disk D)
    (port : Port P) (handed : Handed)
  where
    abbrev Turn : SoloState D P → SoloState D P → Outcome → Type 0
    Turn = IsTurn disk port handed

    abbrev Have : ℕ → SoloState D P → SoloState D P → Type 0
    Have = HaveTaken disk port handed

    -- no turn yet
    pub none_taken : (state : SoloState D P) → Have 0 state state
    none_taken state = record { answers = []; counted = refl; led = refl }

    -- one more turn, which counts or doesn't
    pub one_more_taken : (taken next : ℕ) (old between new : SoloState D P) (does_count : Bool)
        → Have taken old between
        → ((answer : Outcome) × Turn between new answer × (does_count ≡ counts answer))
        → next ≡ taken + cond does_count 1 0 → Have next old new
    one_more_taken taken next old between new does_count so (answer, turn, tells) is = record {
      answers = so.answers ++ answer ∷ [];
      counted = sum_by_push (λ a. cond (counts a) 1 0) so.answers answer
          ∙ ap (λ n. n + cond (counts answer) 1 0) so.counted
          ∙ ap (λ b. taken + cond b 1 0) (sym tells) ∙ sym is;
      led = TurnsLead-append disk port handed
          old between new so.answers answer so.led turn;
    }
