-- The step of an event in the theory, if the event is not a message.
use Rattle.std.proofs.Common.{◌≡◌, ℕ, true, List, [], Some, None, Result, Ok, Err, sym, ap, ◌∙◌}
use Rattle.claims.specs.Member.{Member}
use Rattle.claims.specs.Messages as messages
use Rattle.claims.specs.Nodes as nodes
use Rattle.claims.specs.Quorums.{Quorums}
use Rattle.claims.specs.Step as theory
use Rattle.claims.specs.Step.{Outcome}
use Rattle.engine.specs.declared.Letter.{Letter}
use Rattle.protocol.specs.Events as events
use Rattle.protocol.specs.Events.{Event, is_step}
use Rattle.node.specs.Step.{Asked, Does, Taken, running_step, taken}
use Rattle.node.specs.declared.fault.NodeFault.{NodeFault}
use Rattle.protocol.specs.Answers.{Answer}
use Rattle.protocol.specs.InTheAgreement.{view}
use Rattle.protocol.specs.Laws.{AnswersInput, IsNoMessage}
use Rattle.protocol.specs.State.{Value}
use Rattle.protocol.specs.Step.{answer}
use Rattle.protocol.specs.declared.input.Input.{Input}
use Rattle.protocol.specs.declared.refusal.Refusal.{Refusal}
use Rattle.protocol.proofs.Asked.{input_is}
use Rattle.wire.specs.declared.datagram.Piece.{Piece}
use Rattle.world.specs.Happening.{Acts, Asks}
use Rattle.world.specs.World.{IsMade, World, WorldNode, member_at}
use Rattle.one_list.specs.Local.{AreLocal}
use Rattle.one_list.specs.Matches.{node_of}
use Rattle.one_list.proofs.nodes.NodesAsMembers.{node_is_member}

-- ---- a step's answer

abbrev pub ok : {X : Type 0} → X → Result X NodeFault
ok x = Ok x

pub ok_same : {X : Type 0} (x y : X) → ok x ≡ ok y → x ≡ y
ok_same x y h = cc

pub never_ok : (t : Taken) (f : NodeFault) → ok t ≡ Err f → ⊥
never_ok t f h = cc

abbrev pub answers_with : Answer → Result Answer Refusal
answers_with a = Ok a

-- a step taken on an input is the member's answer
pub taken_is : (pieces : List Piece) (r : Result Answer Refusal) (t : Taken) → ok t ≡ taken pieces r
    → r ≡ answers_with t.answer
taken_is pieces (Ok a) t e =
    let same : t ≡ record { answer = a; pieces = pieces } =
    ok_same t (record { answer = a; pieces = pieces }) e in
    ap (λ (z : Taken). answers_with z.answer) (sym same)
taken_is pieces (Err r) t e = absurd (never_ok t _ e)

-- a member that is up is a node that is up
pub same_view : (w : World) (k : ℕ) (x : WorldNode) (u : ℕ) → x.up ≡ true
    → nodes.view (node_of w k x) u ≡ view (member_at w k x) u
same_view w k x u up = ap (λ b. record (view (member_at w k x) u) { up = b }) up

-- an answer that doesn't depend on what was sent is the same in the theory
pub any_sent : (enough : Quorums) (i : ℕ) (y : Member Value) (sent : List (messages.Message Value))
    (input : theory.Input Value) (o : Outcome Value)
    → theory.answer enough i y [] input ≡ Some o → theory.answer enough i y sent input ≡ Some o
any_sent enough i y sent (theory.Start above) o e = e
any_sent enough i y sent (theory.Built v) o e = e
any_sent enough i y sent theory.Failed o e = e
any_sent enough i y sent theory.Nudge o e = e
any_sent enough i y sent (theory.Deliver k) o e = absurd (let wrong : None ≡ Some o = e in cc)
any_sent enough i y sent theory.Inquire o e = e

-- ---- the input of an event

-- The event asks this of its node, and it is not a message.
pub record IsInputOf (w : World) (e : Event) (x : WorldNode) (t : Taken) (input : Input) : Type
    0 where
  pub no_message : IsNoMessage input
  pub letter : Letter
  pub given : answer (member_at w (events.node_of e) x) letter input ≡ answers_with t.answer
  pub answers : AnswersInput (member_at w (events.node_of e) x) input t.answer

-- this holds for every event that asks for an input
pub input_of : (w : World) → IsMade w.division w.weights → AreLocal w
    → (e : Event) (x : WorldNode) (t : Taken) (input : Input)
    → Acts w e x t → ((asked : Asked) → Asks w e asked → asked ≡ Does input) → IsNoMessage input
    → IsInputOf w e x t input
input_of w made local e x t input acts asks none = record {
  no_message = none;
  letter = acts.takes.letter;
  given = answered;
  answers = input_is (member_at w k x) acts.takes.letter input t.answer
      (node_is_member w made local k x acts.is_up.stands) none answered;
}
  where
    k : ℕ
    k = events.node_of e

    same : acts.asked ≡ Does input
    same = asks acts.asked acts.asks

    answered : answer (member_at w k x) acts.takes.letter input ≡ answers_with t.answer
    answered = taken_is x.pieces (answer (member_at w k x) acts.takes.letter input) t
        (acts.takes.right_is ∙ ap (running_step (member_at w k x) x.pieces acts.takes.letter) same)
