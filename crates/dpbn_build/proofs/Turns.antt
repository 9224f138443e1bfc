-- Turns, one after the other.
use Rattle.std.proofs.Common.{◌≡◌, ◌≢◌, ◌++◌, ℕ, List, [], ◌∷◌, Option, refl, subst, sym}
use Rattle.dpbn_build.specs.Turns.{HasExchanged, HaveTurned, IsAtEnd, IsTurn, Turn, TurnsLead, told_to}
use Rattle.dpbn_node.specs.Runs.{IsTurn as IsTurnOf, SoFar, SoloState}
use Rattle.udp.specs.declared.patience.Hurry.{Hurry}
use Rattle.stable_record.specs.declared.disk.Disk.{Ghosts as Disk}
use Rattle.datagram_ports.specs.declared.port.Port.{Ghosts as Port}

-- Turns led from one state to the other.
pub record HaveLed {D P : Type 0} (disk : Disk D) (port : Port P) (noticed : P → P → Type 0)
    (hurried : P → Hurry → P) (old new : SoloState D P) : Type 0 where
  pub turns : List Turn
  pub led : TurnsLead disk port noticed hurried old
      turns new

-- turns, and one more, are some
some-append : (turns : List Turn) (turn : Turn) → (turns ++ turn ∷ []) ≢ []
some-append [] turn = λ same. cc
some-append (first ∷ turns) turn = λ same. cc

module _ {D P : Type 0} (disk : Disk D)
    (port : Port P) (noticed : P → P → Type 0)
    (hurried : P → Hurry → P)
  where
    abbrev Is : SoloState D P → Turn → SoloState D P → Type 0
    Is = IsTurn disk port noticed hurried

    abbrev Lead : SoloState D P → List Turn → SoloState D P → Type 0
    Lead = TurnsLead disk port noticed hurried

    abbrev Have : SoloState D P → SoloState D P → Type 0
    Have = HaveLed disk port noticed hurried

    -- one more turn after these
    pub TurnsLead-append : (old between new : SoloState D P) (turns : List Turn) (turn : Turn)
        → Lead old turns between → Is between turn new → Lead old (turns ++ turn ∷ []) new
    TurnsLead-append old between new [] turn same is =
        (new, subst (λ s. Is s turn new) same is, refl)
    TurnsLead-append old between new (first ∷ turns) turn (next, earlier, later) is =
        (next, earlier, TurnsLead-append next between new turns turn later is)

    -- no turn yet
    pub none_yet : (state : SoloState D P) → Have state state
    none_yet state = record { turns = []; led = refl }

    -- one more
    pub one_more : (old between new : SoloState D P) → Have old between
        → ((turn : Turn) × Is between turn new) → Have old new
    one_more old between new so (turn, is) = record {
      turns = so.turns ++ turn ∷ [];
      led = TurnsLead-append old between new so.turns turn so.led is;
    }

    -- a turn after an exchange of notices, in which nothing but the port changed
    pub turned : (old told new : SoloState D P) (turn : Turn)
        → told ≡ record old { port = told.port } → HasExchanged noticed old.port told.port
        → IsTurnOf disk port
        (SoFar turn.made turn.wish) (told_to hurried turn.hurry told.port told) new turn.answer
        → Is old turn new
    turned old told new turn same exchanged took = (
      told.port,
      exchanged,
      subst (λ s. IsTurnOf disk port
          (SoFar turn.made turn.wish) (told_to hurried turn.hurry told.port s) new turn.answer) same
          took,
    )

    -- after one more the node is at its end
    pub at_end : (rest : Option ℕ) (old between new told : SoloState D P) → Have old between
        → ((turn : Turn) × Is between turn new) → told ≡ new → IsAtEnd rest told.node.node
        → HaveTurned disk port noticed hurried rest old told
    at_end rest old between new told so (turn, is) same ends = record {
      turns = so.turns ++ turn ∷ [];
      some = some-append so.turns turn;
      led = TurnsLead-append old between told so.turns turn so.led
          (subst (λ s. Is between turn s) (sym same) is);
      ends = ends;
    }
