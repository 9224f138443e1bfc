-- Bytes that encode a message.
use Rattle.std.proofs.Common.{◌≡◌, Bool, false, Result, Ok, Err, IfOk, if◌then◌else◌, sym, subst, ap, ◌∙◌}
use Rattle.faults.specs.Bytes.{Text}
use Rattle.ballots.specs.declared.message.Message.{Message}
use Rattle.node.specs.Arrival.{arrival_of}
use Rattle.node.specs.Calls.{HasHandled}
use Rattle.node.specs.Laws.{OnlyRunningNodesTake}
use Rattle.node.specs.State.{NodeState}
use Rattle.node.specs.Step.{Comes, heard, running_step, step_on}
use Rattle.node.specs.declared.fault.NodeFault.{NodeFault}
use Rattle.node.specs.declared.fault.NodeFault.TheVariants as fault
use Rattle.node.specs.declared.prepared_step.Effects.{Effects}
use Rattle.check_worlds.specs.Rows.{TookMessage}
use Rattle.protocol.specs.State.{Value}
use Rattle.protocol.specs.Step as members
use Rattle.wire.specs.Reading.{datagram_of}
use Rattle.wire.specs.Spelling.{datagram_text}
use Rattle.wire.specs.declared.WireFault.{WireFault}
use Rattle.wire.specs.declared.datagram.Datagram.{Datagram}
use Rattle.wire.specs.declared.datagram.Datagram.TheVariants.{Whole}

-- the step on bytes that are parsed as the message is that on the message
took : (old new : NodeState) (m : Message Value) (out : Effects) → datagram_of (datagram_text (Whole m)) ≡ Ok (Whole m) → OnlyRunningNodesTake
    → HasHandled old new (Comes (datagram_text (Whole m))) out → TookMessage old new m out
took old new m out again running handled =
    let text : Text = datagram_text (Whole m) in
    let runs : old.stopped ≡ false = running old (Comes text) handled.step handled.takes in
    let right : Ok handled.step ≡ heard old.pieces (members.heard old.member m) =
    handled.takes.right_is
    ∙ ap (λ (b : Bool). if b then Err fault.Stopped else running_step old.member old.pieces handled.takes.letter (Comes text)) runs
    ∙ ap (λ (r : Result Datagram WireFault). step_on old.member (arrival_of old.member old.pieces r)) again in
    record { step = handled.step; is = sym right; taken = handled.taken }

-- and so is that of the call
pub if_took : (r : Result Effects NodeFault) (old new : NodeState) (m : Message Value) (text : Text) → text ≡ datagram_text (Whole m)
    → datagram_of (datagram_text (Whole m)) ≡ Ok (Whole m) → OnlyRunningNodesTake
    → IfOk r (HasHandled old new (Comes text)) → IfOk r (TookMessage old new m)
if_took (Ok out) old new m text same again running handled =
    took old new m out again running (subst (λ (t : Text). HasHandled old new (Comes t) out) same handled)
if_took (Err f) old new m text same again running handled = tt
