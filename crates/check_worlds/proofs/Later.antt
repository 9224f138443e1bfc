-- Calls after others that were refused, or that only made a step ready.
use Rattle.std.proofs.Common.{◌≡◌, ◌⊎◌, ⊎_elim, inl, inr, true, Option, Result, Ok, Err, IfOk, IsErrOf, subst, ap}
use Rattle.std.specs.Prelude.{slice_get}
use Rattle.node.specs.Calls.{HasHandled, HasPrepared, HasTaken, left_by}
use Rattle.node.specs.State.{NodeState}
use Rattle.node.specs.Step.{Asked, ReadyStep, Takes, after_refusal, taken_by}
use Rattle.node.specs.declared.fault.NodeFault.{NodeFault}
use Rattle.node.specs.declared.fault.NodeFault.TheVariants as fault
use Rattle.node.specs.declared.prepared_step.Effects.{Effects}
use Rattle.stable_record.specs.declared.log_fault.LogFault.TheVariants as log
use Rattle.check_worlds.specs.Rows.{HasHandledLater, IsPassedOn, IsReceived}

-- a refusal leaves the node unchanged, or without pieces that don't join to a message, or stopped
pub as_left : (n m : NodeState) (asked : Asked) (f : NodeFault) → m ≡ left_by n asked f → ((m ≡ n) ⊎ (m ≡ after_refusal n asked)) ⊎ (m.stopped ≡ true)
as_left n m asked fault.Memory e = inl (inl e)
as_left n m asked (fault.Refused r) e = inl (inl e)
as_left n m asked (fault.Log log.Device) e = inr (ap (λ (x : NodeState). x.stopped) e)
as_left n m asked (fault.Log log.Full) e = inl (inl e)
as_left n m asked (fault.Log log.Memory) e = inl (inl e)
as_left n m asked (fault.Log log.MustReopen) e = inl (inl e)
as_left n m asked (fault.Log log.NotALog) e = inl (inl e)
as_left n m asked (fault.Log log.OtherCluster) e = inl (inl e)
as_left n m asked fault.Stopped e = inl (inl e)
as_left n m asked (fault.Foreign f) e = inl (inr e)

-- a node that then handles something was not stopped
pub handled_later : (r : Result Effects NodeFault) (n m new : NodeState) (first second : Asked) (X : Type 0) → ((m ≡ n) ⊎ (m ≡ after_refusal n first)) ⊎ (m.stopped ≡ true)
    → (m.stopped ≡ true → IsErrOf r fault.Stopped × X) → IfOk r (HasHandled m new second) → IfOk r (HasHandledLater n new first second)
handled_later (Err f) n m new first second X left stops handled = tt
handled_later (Ok out) n m new first second X (inl left) stops handled = record { left = m; refused = left; handled = handled }
handled_later (Ok out) n m new first second X (inr stopped) stops handled = absurd (let no : Ok out ≡ Err fault.Stopped = (stops stopped).0 in cc)

pub if_ok_so : {T E : Type 0} (r : Result T E) (P Q : T → Type 0) → ((x : T) → P x → Q x) → IfOk r P → IfOk r Q
if_ok_so (Ok x) P Q so is = so x is
if_ok_so (Err e) P Q so is = tt

-- what is handled after a refused input is handled by the unchanged node
pub by_the_same : (n new : NodeState) (first second : Asked) (out : Effects) → after_refusal n first ≡ n → HasHandledLater n new first second out → HasHandled n new second out
by_the_same n new first second out same later =
    ⊎_elim
    (λ e. subst (λ (x : NodeState). HasHandled x new second out) e later.handled)
    (λ e. subst (λ (x : NodeState). HasHandled x new second out) same (subst (λ (x : NodeState). HasHandled x new second out) e later.handled))
    later.refused

-- the step that was made ready is the one that was asked for
pub as_prepared : (n mid new : NodeState) (asked : Asked) (r : ReadyStep) (out : Effects) → mid ≡ n → HasPrepared n mid asked (Ok (taken_by n r)) → HasTaken mid new (taken_by mid r) out → HasHandled n new asked out
as_prepared n mid new asked r out same prepared taken = record {
  step = taken_by n r;
  takes = subst (Takes n asked) prepared.given prepared.takes;
  taken = subst (λ (x : NodeState). HasTaken x new (taken_by x r) out) same taken;
}

-- the first datagram that is sent is the one that the other node handles
pub passed : (r : Result (Option Effects) NodeFault) (sender sender_then receiver receiver_then : NodeState) (asked : Asked) (out : Effects) → HasHandled sender sender_then asked out
    → IfOk r (IsReceived (slice_get out.sends 0) receiver receiver_then) → IfOk r (IsPassedOn sender sender_then receiver receiver_then asked)
passed (Err f) sender sender_then receiver receiver_then asked out handled received = tt
passed (Ok given) sender sender_then receiver receiver_then asked out handled received = record {
  step = handled.step;
  takes = handled.takes;
  state = handled.taken.state;
  received = subst (λ ps. IsReceived (slice_get ps 0) receiver receiver_then given) handled.taken.tells.sends received;
}
