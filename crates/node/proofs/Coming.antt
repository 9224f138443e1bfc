-- Bytes that a node receives.
use Rattle.std.proofs.Common.{◌≡◌, ◌⊎◌, ⊎_elim, inl, inr, true, false, List, Option, None, Some, Result, Ok, Err, IfOk, OnOk, refl, sym, subst, ap, ◌∙◌}
use Rattle.faults.specs.Answers.{map_ok}
use Rattle.faults.specs.Bytes.{Text}
use Rattle.ballots.specs.declared.message.Message.{Message}
use Rattle.engine.specs.declared.Letter.TheVariants.{T}
use Rattle.protocol.specs.Answers.{Answer}
use Rattle.protocol.specs.State.{State, Value}
use Rattle.protocol.specs.Step as members
use Rattle.protocol.specs.declared.refusal.Refusal.{Refusal}
use Rattle.wire.specs.Joining.{bytes_of}
use Rattle.wire.specs.Reading.{datagram_of, joined}
use Rattle.wire.specs.declared.WireFault.{WireFault}
use Rattle.wire.specs.declared.WireFault.TheVariants as wire
use Rattle.wire.specs.declared.datagram.Header.{Header}
use Rattle.wire.specs.declared.datagram.Piece.{Piece}
use Rattle.node.proofs.Finishing.{member_stays}
use Rattle.node.proofs.Readying.{told_foreign}
use Rattle.node.specs.Arrival.{Arrival, Strange, Waits, Whole, arrival_of, arrival_of_all, arrival_of_piece}
use Rattle.node.specs.Calls.{HasPrepared, left_by}
use Rattle.node.specs.Kept.{are_all, has_number, with_piece, without}
use Rattle.node.specs.State.{IsNode, LoggedNode, NodeState}
use Rattle.node.specs.Step.{Comes, IsReadyFor, ReadyStep, Taken, Takes, after, changed, heard, nothing, step_on, taken_by}
use Rattle.node.specs.declared.fault.Foreign.{Foreign}
use Rattle.node.specs.declared.fault.Foreign.TheVariants as foreign
use Rattle.node.specs.declared.fault.NodeFault.{NodeFault}
use Rattle.node.specs.declared.fault.NodeFault.TheVariants as fault
use Rattle.node.specs.declared.prepared_step.Change.{Change}
use Rattle.node.specs.declared.prepared_step.Change.TheVariants as change
use Rattle.node.specs.inside.Stepping.{AreKept, ComesAs, MakesReady, dropped_by, foreign_by, left_at, strange_by}

-- ---- refusals

-- a step on received bytes is only refused as foreign
refused_as_foreign : (s : State) (a : Arrival) (f : NodeFault) → step_on s a ≡ Err f → (x : Foreign) × (f ≡ fault.Foreign x)
refused_as_foreign s (Strange x pieces) f e = (x, (let same : Err (fault.Foreign x) ≡ Err f = e in cc))
refused_as_foreign s (Waits pieces) f e = absurd (let no : Ok (record { answer = nothing s; pieces = pieces }) ≡ Err f = e in cc)
refused_as_foreign s (Whole m pieces) f e = by (members.heard s m) e
  where
    by : (r : Result Answer Refusal) → heard pieces r ≡ Err f → (x : Foreign) × (f ≡ fault.Foreign x)
    by (Ok a) e = absurd (let no : Ok (record { answer = a; pieces = pieces }) ≡ Err f = e in cc)
    by (Err r) e = (foreign.Message r, (let same : Err (fault.Foreign (foreign.Message r)) ≡ Err f = e in cc))

-- the refusal of bytes that mean nothing
pub told_strange : (f : WireFault) → (strange_by f ≡ fault.Memory) ⊎ (strange_by f ≡ fault.Foreign (foreign.Bytes f))
told_strange wire.Memory = inl refl
told_strange wire.TooLong = inr refl
told_strange wire.Truncated = inr refl
told_strange wire.Magic = inr refl
told_strange wire.Kind = inr refl
told_strange wire.BadField = inr refl
told_strange wire.Trailing = inr refl

-- a stopped node refuses any bytes
pub stopped_bytes : (n : NodeState) (text : Text) → n.stopped ≡ true → HasPrepared n n (Comes text) (Err fault.Stopped)
stopped_bytes n text stopped = record {
  right = Err fault.Stopped;
  takes = record { letter = T; shown = tt; right_is = rw stopped refl };
  given = inr refl;
  state = refl;
}

module _ (n : NodeState) (text : Text) (running : n.stopped ≡ false) where
  abbrev a : Arrival
  a = arrival_of n.member n.pieces (datagram_of text)

  bytes_take : (right : Result Taken NodeFault) → right ≡ step_on n.member a → Takes n (Comes text) right
  bytes_take right e = record { letter = T; shown = tt; right_is = rw running e }

  -- the step on bytes is made ready
  pub bytes_ready : (r : ReadyStep) → MakesReady n (step_on n.member a) (Ok r) → HasPrepared n n (Comes text) (Ok (taken_by n r))
  bytes_ready r made = record { right = Ok (taken_by n r); takes = bytes_take (Ok (taken_by n r)) (sym made.given); given = refl; state = refl }

  pub bytes_may : (r : ReadyStep) → MakesReady n (step_on n.member a) (Ok r) → IsReadyFor n r
  bytes_may r made = record { asked = Comes text; takes = bytes_take (Ok (taken_by n r)) (sym made.given); may = made.safe.may; leaves = made.safe.leaves }

  -- or it is refused
  pub bytes_refused : (new : NodeState) (f : NodeFault) → MakesReady n (step_on n.member a) (Err f) → new ≡ left_at n a (Err f) → HasPrepared n new (Comes text) (Err f)
  bytes_refused new f made state = record {
    right = step_on n.member a;
    takes = bytes_take (step_on n.member a) refl;
    given = made.given;
    state = state ∙ ⊎_elim (λ e. by fault.Memory f e refl) (λ e. let x = refused_as_foreign n.member a f e in by (fault.Foreign x.0) f x.1 (rw running refl)) made.given;
  }
    where
      by : (g f : NodeFault) → f ≡ g → left_at n a (Err g) ≡ left_by n (Comes text) g → left_at n a (Err f) ≡ left_by n (Comes text) f
      by g f e same = subst (λ (f : NodeFault). left_at n a (Err f) ≡ left_by n (Comes text) f) (sym e) same

  -- bytes that don't encode a datagram are refused
  pub bytes_strange : (f : WireFault) → (f ≡ wire.Memory) ⊎ (datagram_of text ≡ Err f) → HasPrepared n n (Comes text) (Err (strange_by f))
  bytes_strange f read = bytes_refused n (strange_by f) (record { given = given; safe = tt }) (stays given)
    where
      told : datagram_of text ≡ Err f → strange_by f ≡ fault.Foreign (foreign.Bytes f) → step_on n.member a ≡ Err (strange_by f)
      told e is = rw e (ap Err (sym is))

      given : (strange_by f ≡ fault.Memory) ⊎ (step_on n.member a ≡ Err (strange_by f))
      given = ⊎_elim (λ e. inl (ap strange_by e)) (λ e. ⊎_elim (λ is. inl is) (λ is. inr (told e is)) (told_strange f)) read

      stays : (strange_by f ≡ fault.Memory) ⊎ (step_on n.member a ≡ Err (strange_by f)) → n ≡ left_at n a (Err (strange_by f))
      stays g = ⊎_elim
          (λ e. subst (λ (f : NodeFault). n ≡ left_at n a (Err f)) (sym e) refl)
          (λ e. ⊎_elim
          (λ is. subst (λ (f : NodeFault). n ≡ left_at n a (Err f)) (sym is) refl)
          (λ is. subst (λ (f : NodeFault). n ≡ left_at n a (Err f)) (sym is) (⊎_elim (λ memory. (let never : fault.Memory ≡ fault.Foreign (foreign.Bytes f) = sym (ap strange_by memory) ∙ is in cc)) (λ read. rw read refl) read))
          (told_strange f)) g

-- ---- pieces

-- a complete message leaves the node unchanged until its step is taken
whole_stays : (n : NodeState) (m : Message Value) (pieces : List Piece) (result : Result ReadyStep NodeFault) → n ≡ left_at n (Whole m pieces) result
whole_stays n m pieces (Ok r) = refl
whole_stays n m pieces (Err fault.Memory) = refl
whole_stays n m pieces (Err (fault.Refused r)) = refl
whole_stays n m pieces (Err (fault.Log f)) = refl
whole_stays n m pieces (Err fault.Stopped) = refl
whole_stays n m pieces (Err (fault.Foreign f)) = refl

-- so it is handled as a message
pub whole_comes : (n new : NodeState) (m : Message Value) (pieces : List Piece) (result : Result ReadyStep NodeFault) → new ≡ n
    → MakesReady n (heard pieces (members.heard n.member m)) result → ComesAs n new (Whole m pieces) result
whole_comes n new m pieces result same made = record { ready = made; state = same ∙ whole_stays n m pieces result }

module _ (n new : NodeState) (text : Text) (running : n.stopped ≡ false) (a' : Arrival) (is : arrival_of n.member n.pieces (datagram_of text) ≡ a') where
  -- what the call on bytes has done, by their meaning to the node
  pub bytes_done : (result : Result ReadyStep NodeFault) → ComesAs n new a' result → HasPrepared n new (Comes text) (map_ok (taken_by n) result)
  bytes_done (Ok r) comes =
      subst (λ (new : NodeState). HasPrepared n new (Comes text) (Ok (taken_by n r))) (sym comes.state)
      (bytes_ready n text running r (subst (λ (a : Arrival). MakesReady n (step_on n.member a) (Ok r)) (sym is) comes.ready))
  bytes_done (Err f) comes =
      bytes_refused n text running new f (subst (λ (a : Arrival). MakesReady n (step_on n.member a) (Err f)) (sym is) comes.ready)
      (subst (λ (a : Arrival). new ≡ left_at n a (Err f)) (sym is) comes.state)

  pub bytes_left : (result : Result ReadyStep NodeFault) → ComesAs n new a' result → IfOk result (IsReadyFor new)
  bytes_left (Ok r) comes =
      subst (λ (new : NodeState). IsReadyFor new r) (sym comes.state)
      (bytes_may n text running r (subst (λ (a : Arrival). MakesReady n (step_on n.member a) (Ok r)) (sym is) comes.ready))
  bytes_left (Err f) comes = tt

-- making a step ready leaves the node and its log unchanged
pub both_stay : {D : Type 0} (old new : LoggedNode D) (a : Arrival) (result : Result ReadyStep NodeFault) → ComesAs old.node new.node a result → new.log ≡ old.log → OnOk result (new ≡ old)
both_stay old new a (Ok r) comes same =
    ap (λ (n : NodeState). record { node = n; log = new.log }) comes.state ∙ ap (λ l. record { node = old.node; log = l }) same
both_stay old new a (Err f) comes same = tt

-- a step that only changes the pieces leaves a node
waits_leaves : (n : NodeState) (pieces : List Piece) → IsNode n → AreKept n.member pieces → IsNode (after n (record { answer = nothing n.member; pieces = pieces }))
waits_leaves n pieces is kept = subst (λ (s : State). IsNode (record { member = s; notes = n.notes; pieces = pieces; stopped = n.stopped })) (member_stays n is)
    (record {
      member = is.member;
      restored = is.restored;
      notes = is.notes;
      on_units = is.on_units;
      claim = is.claim;
      pieces = kept.each;
      once = kept.once;
      let_through = kept.let_through;
    })

module _ (n : NodeState) (p : Piece) where
  abbrev h : Header
  h = p.header

  -- memory ran out
  pub comes_lost : (a : Arrival) → ComesAs n n a (Err fault.Memory)
  comes_lost a = record { ready = record { given = inl refl; safe = tt }; state = refl }

  -- the pieces join to a message
  pub comes_whole : (new : NodeState) (m : Message Value) (pieces : List Piece) (r : Result (Message Value) WireFault) (result : Result ReadyStep NodeFault) → r ≡ Ok m → new ≡ n
      → MakesReady n (heard pieces (members.heard n.member m)) result → ComesAs n new (arrival_of_all pieces r) result
  comes_whole new m pieces r result e same made = rw e (record { ready = made; state = same ∙ whole_stays n m pieces result })

  -- or they don't
  pub comes_strange : (new : NodeState) (r : Result (Message Value) WireFault) (f : WireFault) → (f ≡ wire.Memory) ⊎ (r ≡ Err f) → new ≡ dropped_by n h f
      → ComesAs n new (arrival_of_all (without h n.pieces) r) (Err (strange_by f))
  comes_strange new r f read state = by f read state
    where
      one : (f : WireFault) → r ≡ Err f → strange_by f ≡ fault.Foreign (foreign.Bytes f) → new ≡ record n { pieces = without h n.pieces }
          → ComesAs n new (arrival_of_all (without h n.pieces) r) (Err (strange_by f))
      one f e is state = rw (e, is) (record { ready = record { given = inr refl; safe = tt }; state = state })

      not_memory : (f : WireFault) → (f ≡ wire.Memory → ⊥) → (f ≡ wire.Memory) ⊎ (r ≡ Err f) → r ≡ Err f
      not_memory f never read = ⊎_elim (λ e. absurd (never e)) (λ e. e) read

      by : (f : WireFault) → (f ≡ wire.Memory) ⊎ (r ≡ Err f) → new ≡ dropped_by n h f → ComesAs n new (arrival_of_all (without h n.pieces) r) (Err (strange_by f))
      by wire.Memory read state = record { ready = record { given = inl refl; safe = tt }; state = state }
      by wire.TooLong read state = one wire.TooLong (not_memory wire.TooLong (λ e. cc) read) refl state
      by wire.Truncated read state = one wire.Truncated (not_memory wire.Truncated (λ e. cc) read) refl state
      by wire.Magic read state = one wire.Magic (not_memory wire.Magic (λ e. cc) read) refl state
      by wire.Kind read state = one wire.Kind (not_memory wire.Kind (λ e. cc) read) refl state
      by wire.BadField read state = one wire.BadField (not_memory wire.BadField (λ e. cc) read) refl state
      by wire.Trailing read state = one wire.Trailing (not_memory wire.Trailing (λ e. cc) read) refl state

  -- its header is refused
  pub comes_foreign : (o : Option Refusal) (refusal : Refusal) → o ≡ Some refusal → ComesAs n n (arrival_of_piece n.pieces p o) (Err (foreign_by refusal))
  comes_foreign o refusal e = rw e (by (foreign_by refusal) (told_foreign refusal))
    where
      by : (f : NodeFault) → (f ≡ fault.Memory) ⊎ (f ≡ fault.Foreign (foreign.Message refusal)) → ComesAs n n (Strange (foreign.Message refusal) n.pieces) (Err f)
      by f is = ⊎_elim
          (λ e. subst (λ (f : NodeFault). ComesAs n n (Strange (foreign.Message refusal) n.pieces) (Err f)) (sym e) (comes_lost (Strange (foreign.Message refusal) n.pieces)))
          (λ e. subst (λ (f : NodeFault). ComesAs n n (Strange (foreign.Message refusal) n.pieces) (Err f)) (sym e) (record { ready = record { given = inr refl; safe = tt }; state = refl }))
          is

  waits_ready : (pieces : List Piece) (change : Change) → IsNode n → pieces ≡ changed change n.pieces → AreKept n.member pieces
      → ComesAs n n (Waits pieces) (Ok (record { step = None; change = change }))
  waits_ready pieces change is e kept = record {
    ready = record {
      given = ap (λ (ps : List Piece). Ok (record { answer = nothing n.member; pieces = ps })) e;
      safe = record {
        may = λ q no. absurd (let never : None ≡ Some q = no in cc);
        leaves = subst (λ (ps : List Piece). IsNode (after n (record { answer = nothing n.member; pieces = ps }))) e (waits_leaves n pieces is kept);
      };
    };
    state = refl;
  }

  -- the piece was received before
  pub comes_again : (o : Option Refusal) → o ≡ None → has_number h n.pieces p.number ≡ true → IsNode n → ComesAs n n (arrival_of_piece n.pieces p o) (Ok (record { step = None; change = change.Stays }))
  comes_again o e has is = rw (e, has) (waits_ready n.pieces change.Stays is refl (record { each = is.pieces; once = is.once; let_through = is.let_through }))

  -- it is kept, because others are missing
  pub comes_kept : (o : Option Refusal) → o ≡ None → has_number h n.pieces p.number ≡ false → are_all h (with_piece n.pieces p) ≡ false → IsNode n → AreKept n.member (with_piece n.pieces p)
      → ComesAs n n (arrival_of_piece n.pieces p o) (Ok (record { step = None; change = change.Keeps p }))
  comes_kept o e has all is kept = rw (e, has, all) (waits_ready (with_piece n.pieces p) (change.Keeps p) is refl kept)

  -- it is the last missing one of its message
  pub comes_last : (new : NodeState) (result : Result ReadyStep NodeFault) (o : Option Refusal) → o ≡ None → has_number h n.pieces p.number ≡ false → are_all h (with_piece n.pieces p) ≡ true
      → ComesAs n new (arrival_of_all (without h n.pieces) (joined h (bytes_of h (with_piece n.pieces p)))) result → ComesAs n new (arrival_of_piece n.pieces p o) result
  comes_last new result o e has all comes = rw (e, has, all) comes
