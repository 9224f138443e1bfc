-- Sequences of turns.
use Rattle.std.proofs.Common.{◌+◌, ◌++◌, ◌∙◌, ℕ, List, [], ◌∷◌, refl, ap, subst, length-append}
use Rattle.lone_node.specs.Handed.{Handed}
use Rattle.lone_node.specs.State.{SoloState}
use Rattle.lone_node.specs.Turns.{HaveTurned, IsTurn, Outcome, TurnsLead}
use Rattle.stable_record.specs.declared.disk.Disk.{Ghosts as Disk}
use Rattle.datagram_ports.specs.declared.port.Port.{Ghosts as Port}

module _ {D P : Type 0} (disk : Disk D)
    (port : Port P) (handed : Handed)
  where
    abbrev Turn : SoloState D P → SoloState D P → Outcome → Type 0
    Turn = IsTurn disk port handed

    abbrev Lead : SoloState D P → List Outcome → SoloState D P → Type 0
    Lead = TurnsLead disk port handed

    abbrev Have : ℕ → SoloState D P → SoloState D P → Type 0
    Have = HaveTurned disk port handed

    -- one more turn at the end
    pub TurnsLead-append : (old between new : SoloState D P) (answers : List Outcome)
        (answer : Outcome) → Lead old answers between → Turn between new answer
        → Lead old (answers ++ answer ∷ []) new
    TurnsLead-append old between new [] answer same turn =
        (new, subst (λ s. Turn s new answer) same turn, refl)
    TurnsLead-append old between new (first ∷ answers) answer (next, turn, later) more =
        (next, turn, TurnsLead-append next between new answers answer later more)

    -- no turn yet
    pub none_yet : (state : SoloState D P) → Have 0 state state
    none_yet state = record { answers = []; counted = refl; led = refl }

    -- one more turn
    pub one_more : (count : ℕ) (old between new : SoloState D P) → Have count old between
        → ((answer : Outcome) × Turn between new answer) → Have (count + 1) old new
    one_more count old between new so (answer, turn) = record {
      answers = so.answers ++ answer ∷ [];
      counted = length-append so.answers (answer ∷ []) ∙ ap (λ n. n + 1) so.counted;
      led = TurnsLead-append old between new so.answers answer so.led turn;
    }
