-- An event asks one thing, and its node takes one step on it.
use Rattle.std.proofs.Common.{◌≡◌, ℕ, Some, Result, Ok, refl, sym, ap, subst, ◌∙◌}
use Rattle.engine.specs.declared.Letter.{Letter}
use Rattle.protocol.specs.Events.{Event, Claim, Built, Failed, Nudge, Ask, Deliver, Stop, StopIn, Restart, node_of}
use Rattle.node.specs.Step as steps
use Rattle.node.specs.Step.{Asked, Comes, Does, Taken, Takes, step, unit_asked}
use Rattle.node.specs.declared.fault.NodeFault.{NodeFault}
use Rattle.protocol.proofs.OneAnswer.{one_answer}
use Rattle.protocol.specs.Step.{IsLetterOf, answer}
use Rattle.world.specs.Happening.{Acts, Asks}
use Rattle.world.specs.World.{World, WorldNode, member_at, node_at}

pub some_same : {X : Type 0} (x y : X) → Some x ≡ Some y → x ≡ y
some_same x y e = cc

-- an event asks one thing
pub one_asked : (w : World) (e : Event) (a b : Asked) → Asks w e a → Asks w e b → a ≡ b
one_asked w (Claim n path host above) a b x y = x ∙ sym y
one_asked w (Built n path given) a b x y = x ∙ sym y
one_asked w (Failed n path) a b x y = x ∙ sym y
one_asked w (Nudge n) a b x y = x ∙ sym y
one_asked w (Ask n path) a b x y = x ∙ sym y
one_asked w (Deliver d n) a b x y =
    x.2 ∙ ap Comes (some_same x.0 y.0 (sym x.1 ∙ y.1)) ∙ sym y.2
one_asked w (Stop n) a b x y = absurd x
one_asked w (StopIn e l) a b x y = one_asked w e a b x y
one_asked w (Restart n) a b x y = absurd x

-- a node of the world has only one answer to it
steps_alike : (w : World) (k : ℕ) (x : WorldNode) (asked : Asked) (l m : Letter)
    → IsLetterOf (member_at w k x) (unit_asked (node_at w k x) asked) l
    → IsLetterOf (member_at w k x) (unit_asked (node_at w k x) asked) m
    → step (node_at w k x) l asked ≡ step (node_at w k x) m asked
steps_alike w k x (Comes text) l m first second = refl
steps_alike w k x (Does input) l m first second =
    ap (steps.taken x.pieces)
    (one_answer (member_at w k x) input (answer (member_at w k x) l input)
    (answer (member_at w k x) m input)
    (record { letter = l; shown = first; right = refl })
    (record { letter = m; shown = second; right = refl }))

one_right : (w : World) (k : ℕ) (x : WorldNode) (asked : Asked) (a b : Result Taken NodeFault)
    → Takes (node_at w k x) asked a → Takes (node_at w k x) asked b → a ≡ b
one_right w k x asked a b first second =
    first.right_is
    ∙ steps_alike w k x asked first.letter second.letter first.shown second.shown
    ∙ sym second.right_is

took_same : (a b : Taken) → ◌≡◌ {A = Result Taken NodeFault} (Ok a) (Ok b) → a ≡ b
took_same a b e = cc

-- so an event has only one step
pub one_act : (w : World) (e : Event) (x y : WorldNode) (t u : Taken) → Acts w e x t
    → Acts w e y u → t ≡ u
one_act w e x y t u a b =
    let node : x ≡ y = some_same x y (sym a.is_up.stands ∙ b.is_up.stands) in
    let same : a.asked ≡ b.asked = one_asked w e a.asked b.asked a.asks b.asks in
    let there : Takes (node_at w (node_of e) y) b.asked (Ok t) =
    subst (λ z. Takes (node_at w (node_of e) z) b.asked (Ok t)) node
    (subst (λ z. Takes (node_at w (node_of e) x) z (Ok t)) same a.takes) in
    took_same t u (one_right w (node_of e) y b.asked (Ok t) (Ok u) there b.takes)
