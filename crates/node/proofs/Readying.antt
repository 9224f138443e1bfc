-- Steps that are made ready.
use Rattle.std.proofs.Common.{◌≡◌, ◌⊎◌, ⊎_elim, inl, inr, true, false, Some, Result, Ok, Err, refl, sym, subst, ap, ◌∙◌}
use Rattle.ballots.specs.declared.message.Message.{Message}
use Rattle.engine.specs.declared.Letter.TheVariants.{T}
use Rattle.member.specs.Prepared.{MayBeTaken, Prepared, answer_by}
use Rattle.protocol.proofs.MembersStay.{members_stay}
use Rattle.protocol.specs.Answers.{Answer}
use Rattle.protocol.specs.State.{Value}
use Rattle.protocol.specs.Step as members
use Rattle.protocol.specs.Step.{HasAnswered, answer}
use Rattle.protocol.specs.declared.input.Input.{Input}
use Rattle.protocol.specs.declared.input.Input.TheVariants as inputs
use Rattle.protocol.specs.declared.refusal.Refusal.{Refusal}
use Rattle.protocol.specs.declared.refusal.Refusal.TheVariants as refusals
use Rattle.node.proofs.ranges.Leaving.{leaves_node, node_in_range}
use Rattle.node.proofs.ranges.Written.{answers_written}
use Rattle.node.specs.Calls.{HasPrepared, left_by}
use Rattle.node.specs.Ranges.{CanBeWritten, IsGoodInput}
use Rattle.node.specs.State.{IsNode, NodeState}
use Rattle.node.specs.Step.{Does, IsReadyFor, ReadyStep, Takes, changed, heard, taken, taken_by}
use Rattle.node.specs.declared.fault.Foreign.TheVariants as foreign
use Rattle.node.specs.declared.fault.NodeFault.{NodeFault}
use Rattle.node.specs.declared.fault.NodeFault.TheVariants as fault
use Rattle.node.specs.declared.prepared_step.Change.{Change}
use Rattle.node.specs.declared.prepared_step.Change.TheVariants as change
use Rattle.node.specs.inside.Stepping.{AreKept, IsPrepared, IsSafe, MakesReady, foreign_by, refused_by}

module _ (n : NodeState) (is : IsNode n) (input : Input) (good : IsGoodInput input) (step : Prepared) (answered : HasAnswered n.member input (Ok (answer_by n.member step))) where
  -- the right answer
  abbrev a : Answer
  a = answer_by n.member step

  answer_is : answer n.member answered.answers.letter input ≡ Ok a
  answer_is = sym answered.answers.right ∙ answered.given

  -- what it notes and sends can be encoded
  pub step_written : CanBeWritten n.member a
  step_written = answers_written n.member answered.answers.letter input a is.member (node_in_range n is) good answer_is

  -- it may be taken, and leaves a valid node
  step_safe : MayBeTaken n.member step → (change : Change) → AreKept n.member (changed change n.pieces) → IsSafe n (record { step = Some step; change = change })
  step_safe may change kept = record {
    may = λ p e. subst (MayBeTaken n.member) (let same : step ≡ p = cc in same) may;
    leaves = leaves_node n answered.answers.letter input a (changed change n.pieces) is (members_stay n.member may.input a is.member may.in_range may.answers) good answer_is kept;
  }

  -- so it is prepared
  pub step_prepared : MayBeTaken n.member step → (change : Change) → AreKept n.member (changed change n.pieces) → IsPrepared n input change (Ok (record { step = Some step; change = change }))
  step_prepared may change kept = record {
    letter = answered.answers.letter;
    shown = answered.answers.shown;
    given = answer_is;
    changes = refl;
    safe = step_safe may change kept;
  }

-- memory ran out after the member's step
pub step_lost : (n : NodeState) (input : Input) (change : Change) (result : Result Answer Refusal) → HasAnswered n.member input result → IsPrepared n input change (Err refusals.Memory)
step_lost n input change result answered = record {
  letter = answered.answers.letter;
  shown = answered.answers.shown;
  given = inl refl;
  changes = tt;
  safe = tt;
}

-- the member refuses
pub step_refused : (n : NodeState) (input : Input) (change : Change) (refusal : Refusal) → HasAnswered n.member input (Err refusal) → IsPrepared n input change (Err refusal)
step_refused n input change refusal answered = record {
  letter = answered.answers.letter;
  shown = answered.answers.shown;
  given = ⊎_elim (λ e. inl e) (λ e. inr (sym answered.answers.right ∙ e)) answered.given;
  changes = tt;
  safe = tt;
}

-- ---- messages

-- the refusal of a message, as the node returns it
pub told_foreign : (r : Refusal) → (foreign_by r ≡ fault.Memory) ⊎ (foreign_by r ≡ fault.Foreign (foreign.Message r))
told_foreign refusals.Memory = inl refl
told_foreign refusals.Unlisted = inr refl
told_foreign refusals.Ignored = inr refl
told_foreign refusals.Waiting = inr refl
told_foreign refusals.Held = inr refl
told_foreign refusals.NoClaim = inr refl
told_foreign refusals.RoundsSpent = inr refl
told_foreign (refusals.BadFiles f) = inr refl
told_foreign refusals.OtherTree = inr refl
told_foreign refusals.NotAMember = inr refl
told_foreign refusals.OtherPackages = inr refl

module _ (n : NodeState) (m : Message Value) (change : Change) where
  -- the step on the message is ready
  pub message_ready : (r : ReadyStep) → IsPrepared n (inputs.Message m) change (Ok r) → MakesReady n (heard (changed change n.pieces) (members.heard n.member m)) (Ok r)
  message_ready r prepared = record { given = rw (prepared.given, prepared.changes) refl; safe = prepared.safe }

  -- or it is refused
  pub message_refused : (refusal : Refusal) → IsPrepared n (inputs.Message m) change (Err refusal)
      → MakesReady n (heard (changed change n.pieces) (members.heard n.member m)) (Err (foreign_by refusal))
  message_refused refusal prepared =
      let told : members.heard n.member m ≡ Err refusal → foreign_by refusal ≡ fault.Foreign (foreign.Message refusal)
      → heard (changed change n.pieces) (members.heard n.member m) ≡ Err (foreign_by refusal) =
      λ e is. ap (heard (changed change n.pieces)) e ∙ ap Err (sym is) in
      record {
        given = ⊎_elim (λ e. inl (ap foreign_by e)) (λ e. ⊎_elim (λ is. inl is) (λ is. inr (told e is)) (told_foreign refusal)) prepared.given;
        safe = tt;
      }

-- ---- inputs

-- the refusal of an input, as the node returns it
told_refused : (r : Refusal) → (refused_by r ≡ fault.Memory) ⊎ (refused_by r ≡ fault.Refused r)
told_refused refusals.Memory = inl refl
told_refused refusals.Unlisted = inr refl
told_refused refusals.Ignored = inr refl
told_refused refusals.Waiting = inr refl
told_refused refusals.Held = inr refl
told_refused refusals.NoClaim = inr refl
told_refused refusals.RoundsSpent = inr refl
told_refused (refusals.BadFiles f) = inr refl
told_refused refusals.OtherTree = inr refl
told_refused refusals.NotAMember = inr refl
told_refused refusals.OtherPackages = inr refl

-- a stopped node refuses any input
pub stopped_input : (n : NodeState) (input : Input) → n.stopped ≡ true → HasPrepared n n (Does input) (Err fault.Stopped)
stopped_input n input stopped = record {
  right = Err fault.Stopped;
  takes = record { letter = T; shown = rw stopped tt; right_is = rw stopped refl };
  given = inr refl;
  state = refl;
}

module _ (n : NodeState) (input : Input) (running : n.stopped ≡ false) where
  -- the step on an input is ready
  input_takes : (r : ReadyStep) → IsPrepared n input change.Stays (Ok r) → Takes n (Does input) (Ok (taken_by n r))
  input_takes r prepared = record { letter = prepared.letter; shown = rw running prepared.shown; right_is = rw (running, prepared.given, prepared.changes) refl }

  pub input_ready : (r : ReadyStep) → IsPrepared n input change.Stays (Ok r) → HasPrepared n n (Does input) (Ok (taken_by n r))
  input_ready r prepared = record { right = Ok (taken_by n r); takes = input_takes r prepared; given = refl; state = refl }

  pub input_may : (r : ReadyStep) → IsPrepared n input change.Stays (Ok r) → IsReadyFor n r
  input_may r prepared = record { asked = Does input; takes = input_takes r prepared; may = prepared.safe.may; leaves = prepared.safe.leaves }

  -- or it is refused
  pub input_refused : (refusal : Refusal) → IsPrepared n input change.Stays (Err refusal) → HasPrepared n n (Does input) (Err (refused_by refusal))
  input_refused refusal prepared =
      let right = taken n.pieces (answer n.member prepared.letter input) in
      let told : answer n.member prepared.letter input ≡ Err refusal → refused_by refusal ≡ fault.Refused refusal → right ≡ Err (refused_by refusal) =
      λ e is. ap (taken n.pieces) e ∙ ap Err (sym is) in
      let stays : (f : NodeFault) → (f ≡ fault.Memory) ⊎ (f ≡ fault.Refused refusal) → n ≡ left_by n (Does input) f =
      λ f is. ⊎_elim (λ e. subst (λ (f : NodeFault). n ≡ left_by n (Does input) f) (sym e) refl) (λ e. subst (λ (f : NodeFault). n ≡ left_by n (Does input) f) (sym e) refl) is in
      record {
        right = right;
        takes = record { letter = prepared.letter; shown = rw running prepared.shown; right_is = rw running refl };
        given = ⊎_elim (λ e. inl (ap refused_by e)) (λ e. ⊎_elim (λ is. inl is) (λ is. inr (told e is)) (told_refused refusal)) prepared.given;
        state = stays (refused_by refusal) (told_refused refusal);
      }
