-- What a turn of a program does to its host.
use Rattle.std.proofs.Common.{◌≡◌, ◌≢◌, ◌++◌, ◌⊎◌, ℕ, Bool, true, false, List, [], Option, None, Some, Result, Ok, Err, slice_get, refl, sym, ap, subst, ◌∙◌, inl, inr}
use Rattle.std.specs.Prelude.{Contains, IfOk}
use Rattle.std.proofs.lemmas.List.Elements.{Contains-append_left}
use Rattle.dpbn_node.specs.Runs.{Running, file_disk, udp_port}
use Rattle.faults.specs.Bytes.{Text}
use Rattle.laws.proofs.OnHosts.{turns_are_of_a_run}
use Rattle.laws.proofs.ProgramRuns.{Grows, HasHost, IsAt, Stands, at_up, left_later, still_stopped}
use Rattle.laws.proofs.Reopened.{left_after_turn, left_in_turn, notes_stay, one_moment}
use Rattle.laws.proofs.Stopped.{no_step, stopped_stays}
use Rattle.laws.specs.Hosts.{Host, Hosts, IsLeft, Up, sends_of}
use Rattle.laws.specs.OnHosts.{HasOffered, HasOnlyAsked, host_after}
use Rattle.laws.specs.Programs.{HeardOffered, IsProgramTurn, Runs}
use Rattle.laws.specs.Reopening.{MayBeLeft}
use Rattle.laws.specs.Run.{Run}
use Rattle.listing.specs.Tree.{Tree}
use Rattle.lone_node.specs.Handed.{Handed}
use Rattle.lone_node.specs.Turn.{IsUntouched}
use Rattle.lone_node.specs.Turns.{Outcome}
use Rattle.node.proofs.OneStep.{one_step}
use Rattle.node.specs.Calls.{left_by}
use Rattle.node.specs.OnLog.{IsOnLog, identity, identity_of, texts_of}
use Rattle.node.specs.State.{LoggedNode, NodeState}
use Rattle.node.specs.Step.{Asked, Taken, after}
use Rattle.node.specs.declared.fault.NodeFault.{NodeFault}
use Rattle.node.specs.declared.fault.NodeFault.TheVariants as fault
use Rattle.stable_record.specs.Crash.{MayLeave}
use Rattle.stable_record.specs.History.{History}
use Rattle.stable_record.specs.Log.{HasNotes}
use Rattle.stable_record.specs.RealFile.{file_agrees, file_history}
use Rattle.stable_record.specs.declared.file_disk.FileDisk.{FileDisk}
use Rattle.stable_record.specs.declared.identity.Identity.{Identity}
use Rattle.stable_record.specs.declared.log_fault.LogFault.TheVariants as log
use Rattle.turn_rules.specs.Acts.{asked_by}
use Rattle.turn_rules.specs.declared.act.Act.{Act}
use Rattle.turn_rules.specs.declared.fault.TurnFault.{TurnFault}
use Rattle.turn_rules.specs.declared.fault.TurnFault.TheVariants as refused

-- ---- what is offered

-- what a turn offers is appended
pub offers_more : (state : Running) (answer : Outcome) (before after : List Text)
    → HasOffered state answer before after → Grows before after
offers_more state (Ok (Some act)) before after (t, takes, is) =
    λ text there. subst (λ (l : List Text). Contains l text) (sym is)
    (Contains-append_left before (sends_of t) text there)
offers_more state (Ok None) before after is =
    λ text there. subst (λ (l : List Text). Contains l text) (sym is) there
offers_more state (Err f) before after is =
    λ text there. subst (λ (l : List Text). Contains l text) (sym is) there

-- and only one thing is offered
offers_same : (state : Running) (answer : Outcome) (before one other : List Text)
    → HasOffered state answer before one → HasOffered state answer before other → one ≡ other
offers_same state (Ok (Some act)) before one other (t, takes, is) (u, takes_too, is_too) =
    let two : ◌≡◌ {A = Result Taken NodeFault} (Ok t) (Ok u) =
    one_step state.node.node (asked_by act) (Ok t) (Ok u) takes takes_too in
    let same : t ≡ u = cc in
    is ∙ ap (λ (x : Taken). before ++ sends_of x) same ∙ sym is_too
offers_same state (Ok None) before one other is is_too = is ∙ sym is_too
offers_same state (Err f) before one other is is_too = is ∙ sym is_too

-- ---- a refusal keeps the notes and the member

left_same : (n : NodeState) (asked : Asked) (f : NodeFault)
    → ((left_by n asked f).notes ≡ n.notes) × ((left_by n asked f).member ≡ n.member)
left_same n asked fault.Memory = (refl, refl)
left_same n asked (fault.Refused r) = (refl, refl)
left_same n asked (fault.Log log.Device) = (refl, refl)
left_same n asked (fault.Log log.Full) = (refl, refl)
left_same n asked (fault.Log log.Memory) = (refl, refl)
left_same n asked (fault.Log log.MustReopen) = (refl, refl)
left_same n asked (fault.Log log.NotALog) = (refl, refl)
left_same n asked (fault.Log log.OtherCluster) = (refl, refl)
left_same n asked fault.Stopped = (refl, refl)
left_same n asked (fault.Foreign f) = (refl, refl)

-- nothing is both
not_both : (b : Bool) → b ≡ true → b ≡ false → ⊥
not_both b is is_not = absurd (let wrong : true ≡ false = sym is ∙ is_not in cc)

-- ---- one turn

-- Between the two, only the host with this number changed, and it is this one now.
pub record ChangesHost (k : ℕ) (h g : Hosts) (y : Host) : Type 0 where
  pub here : slice_get g.hosts k ≡ Some y
  pub others : (j : ℕ) → j ≢ k → slice_get g.hosts j ≡ slice_get h.hosts j

module _ (tree : Tree) (weights : List ℕ) (first h : Hosts) (so_far : Run tree weights first h)
    (sent later : List Text) (k : ℕ) (handed : Handed) (old new : Running) (offered : h.offered ≡ sent)
    (agrees : file_agrees new.node.log.disk) where
  -- the hosts after the turn, if later this was offered
  abbrev Goes : Type 0
  Goes = (g : Hosts) × (y : Host) × Run tree weights first g × (g.offered ≡ later)
      × ChangesHost k h g y × Stands tree weights later k (Runs new) y

  -- nothing happens to the hosts
  stays : (y : Host) → slice_get h.hosts k ≡ Some y → later ≡ sent
      → Stands tree weights later k (Runs new) y → Goes
  stays y there silent stands = (
    h,
    y,
    so_far,
    offered ∙ sym silent,
    record { here = there; others = λ j other. refl },
    stands,
  )

  module _ (on : IsOnLog file_history old.node)
      (own : identity_of old.node.node.member ≡ identity tree weights k)
      (up : old.node.node.stopped ≡ false)
      (there : slice_get h.hosts k ≡ Some (Up old.node.node)) (answer : Outcome)
      (turn : IsProgramTurn handed old new answer)
      (heard : HeardOffered handed old new answer turn sent)
      (offers : HasOffered old answer sent later) where
    -- the turn is of the run, if the node is still up
    goes_by : host_after new (texts_of old.node.node.notes) answer ≡ Up new.node.node
        → IsAt tree weights later k new new.node.node → Goes
    goes_by stands_up at =
        let next = turns_are_of_a_run file_disk
        udp_port tree weights
        first h k handed old new (texts_of old.node.node.notes) answer so_far there (inl refl) turn
        (subst (HeardOffered handed old new answer turn) (sym offered) heard) in (
          next.0,
          Up new.node.node,
          next.1,
          offers_same old answer sent (next.0).offered later
              (subst (λ (l : List Text). HasOffered old answer l (next.0).offered) offered
              (next.2).offered) offers,
          record { here = (next.2).here ∙ ap Some stands_up; others = (next.2).others },
          (new.node.node, refl, at),
        )

    on_then : new.node.node.stopped ≡ false → IsOnLog file_history new.node
    on_then e = turn.log.on_log agrees on e

    -- a refusal left the log as it was
    refused_at : (f : NodeFault) (asked : Asked) → answer ≡ Err (refused.Node f)
        → new.node.node ≡ left_by old.node.node asked f
        → file_history new.node.log.disk ≡ file_history old.node.log.disk
        → IsAt tree weights later k new new.node.node
    refused_at f asked is leaves same = record {
      own = own_then;
      up = λ e. refl;
      stopped = still_stopped new.node.node;
      on = on_then;
      leaves = λ file may. (
        texts_of old.node.node.notes,
        subst (λ (i : Identity). HasNotes i (texts_of old.node.node.notes) file) own
            (notes_stay file_history old.node on file
            (subst (λ (x : History). MayLeave x file) same may)),
        inl (sym (ap texts_of notes_then)),
      );
    }
      where
        own_then : identity_of new.node.node.member ≡ identity tree weights k
        own_then = ap (λ (m : NodeState). identity_of m.member) leaves
            ∙ (ap identity_of (left_same old.node.node asked f).1 ∙ own)

        notes_then : new.node.node.notes ≡ old.node.node.notes
        notes_then = ap (λ (m : NodeState). m.notes) leaves ∙ (left_same old.node.node asked f).0

    -- the device failed
    down_at : new.node.node ≡ record old.node.node { stopped = true }
        → IsAt tree weights later k new old.node.node
    down_at down = record {
      own = own;
      up = λ e. absurd (not_both new.node.node.stopped is_down e);
      stopped = λ e. down;
      on = λ e. absurd (not_both new.node.node.stopped is_down e);
      leaves = λ file may.
          let left = left_after_turn file_disk
          udp_port handed old
          new on agrees sent answer turn heard file may in (
            left.0,
            subst (λ (i : Identity). HasNotes i left.0 file) own left.1,
            left_later sent later (offers_more old answer sent later offers) old.node.node left.0
                left.2,
          );
    }
      where
        is_down : new.node.node.stopped ≡ true
        is_down = ap (λ (m : NodeState). m.stopped) down

    -- the node took a step
    took_at : (t : Taken) → new.node.node ≡ after old.node.node t
        → IsAt tree weights later k new new.node.node
    took_at t is = at_up tree weights later k new
        (ap (λ (m : NodeState). identity_of m.member) is ∙ own)
        (on_then (ap (λ (m : NodeState). m.stopped) is ∙ up))

    -- the node is unchanged
    same_at : new.node.node ≡ old.node.node → IsAt tree weights later k new new.node.node
    same_at is = at_up tree weights later k new
        (ap (λ (m : NodeState). identity_of m.member) is ∙ own)
        (on_then (ap (λ (m : NodeState). m.stopped) is ∙ up))

  untouched_then : (answer : Outcome) (f : TurnFault) → ((k : ℕ) → f ≡ refused.Down k → ⊥)
      → (old.node.node.stopped ≡ false → IsOnLog file_history old.node)
      → ((k : ℕ) × (f ≡ refused.Down k)) ⊎ IsUntouched file_disk old new
      → file_history new.node.log.disk ≡ file_history old.node.log.disk
  untouched_then answer f other on (inl (j, is)) = absurd (other j is)
  untouched_then answer f other on (inr same) = same agrees on

  goes_up : IsOnLog file_history old.node
      → identity_of old.node.node.member ≡ identity tree weights k
      → old.node.node.stopped ≡ false → slice_get h.hosts k ≡ Some (Up old.node.node)
      → (answer : Outcome) → (turn : IsProgramTurn handed old new answer)
      → HeardOffered handed old new answer turn sent → HasOffered old answer sent later → Goes
  goes_up on own up there (Ok (Some act)) turn heard offers =
      goes_by on own up there (Ok (Some act)) turn heard offers refl
      (took_at on own up there (Ok (Some act)) turn heard offers (turn.done.taken).taken
      (turn.done.taken).node)
  goes_up on own up there (Ok None) turn heard offers =
      goes_by on own up there (Ok None) turn heard offers refl
      (same_at on own up there (Ok None) turn heard offers
      (ap (λ (m : LoggedNode FileDisk). m.node) (turn.done.same).0))
  goes_up on own up there (Err refused.Memory) turn heard offers =
      goes_by on own up there (Err refused.Memory) turn heard offers refl
      (same_at on own up there (Err refused.Memory) turn heard offers (turn.refuses.refused).2)
  goes_up on own up there (Err (refused.Node f)) turn heard offers =
      goes_by on own up there (Err (refused.Node f)) turn heard offers refl
      (refused_at on own up there (Err (refused.Node f)) turn heard offers f
      (turn.refuses.refused).0 refl ((turn.refuses.refused).2).leaves
      (untouched_then (Err (refused.Node f)) (refused.Node f)
      (λ j e. let no : ◌≡◌ {A = TurnFault} (refused.Node f) (refused.Down j) = e in cc) (λ e. on)
      turn.log.untouched))
  goes_up on own up there (Err (refused.Down j)) turn heard offers =
      stays (Up old.node.node) there offers (
        old.node.node,
        refl,
        down_at on own up there (Err (refused.Down j)) turn heard offers
            (turn.refuses.refused).4,
      )
  goes_up on own up there (Err refused.NotSent) turn heard offers = absurd turn.refuses.refused
  goes_up on own up there (Err refused.NotFresh) turn heard offers = absurd turn.refuses.refused

  -- ---- a node that is stopped

  -- its turns leave the log as it was
  unwritten : old.node.node.stopped ≡ true → (answer : Outcome)
      → IsProgramTurn handed old new answer
      → file_history new.node.log.disk ≡ file_history old.node.log.disk
  unwritten down (Ok (Some act)) turn =
      absurd (no_step old.node.node (asked_by act) (turn.done.taken).taken down
      (turn.done.taken).takes)
  unwritten down (Ok None) turn =
      turn.log.untouched agrees (λ up. absurd (not_both old.node.node.stopped down up))
  unwritten down (Err refused.Memory) turn = untouched_then (Err refused.Memory) refused.Memory
      (λ j e. let no : ◌≡◌ {A = TurnFault} refused.Memory (refused.Down j) = e in cc)
      (λ up. absurd (not_both old.node.node.stopped down up)) turn.log.untouched
  unwritten down (Err (refused.Node f)) turn =
      untouched_then (Err (refused.Node f)) (refused.Node f)
      (λ j e. let no : ◌≡◌ {A = TurnFault} (refused.Node f) (refused.Down j) = e in cc)
      (λ up. absurd (not_both old.node.node.stopped down up)) turn.log.untouched
  unwritten down (Err (refused.Down j)) turn = absurd (no_step old.node.node
      (turn.refuses.refused).0 ((turn.refuses.refused).3).step down
      ((turn.refuses.refused).3).takes)
  unwritten down (Err refused.NotSent) turn = absurd turn.refuses.refused
  unwritten down (Err refused.NotFresh) turn = absurd turn.refuses.refused

  -- and offer nothing
  silent_then : (answer : Outcome) → IfOk answer (λ o. o ≡ None)
      → HasOffered old answer sent later → later ≡ sent
  silent_then (Ok None) nothing offers = offers
  silent_then (Ok (Some act)) nothing offers =
      absurd (let no : ◌≡◌ {A = Option Act} (Some act) None = nothing in cc)
  silent_then (Err f) nothing offers = offers

  goes_stopped : (y : Host) (n : NodeState) → slice_get h.hosts k ≡ Some y → y ≡ Up n
      → IsAt tree weights sent k old n → old.node.node.stopped ≡ true → (answer : Outcome)
      → IsProgramTurn handed old new answer → HasOffered old answer sent later → Goes
  goes_stopped y n there is at down answer turn offers =
      stays y there silent (
        n,
        is,
        record {
          own = at.own;
          up = λ e. absurd (not_both new.node.node.stopped down_then e);
          stopped = λ e. asked.node ∙ at.stopped down;
          on = λ e. absurd (not_both new.node.node.stopped down_then e);
          leaves = λ file may.
              let left = at.leaves file
              (subst (λ (x : History). MayLeave x file) (unwritten down answer turn) may) in (
                left.0,
                left.1,
                left_later sent later (offers_more old answer sent later offers) n
                    left.0 left.2,
              );
        },
      )
    where
      asked : HasOnlyAsked udp_port handed
          old new answer
      asked = stopped_stays file_disk
          udp_port handed old
          new answer down turn

      silent : later ≡ sent
      silent = silent_then answer asked.nothing offers

      down_then : new.node.node.stopped ≡ true
      down_then = ap (λ (m : NodeState). m.stopped) asked.node ∙ down

  -- ---- either

  goes : (y : Host) (n : NodeState) → slice_get h.hosts k ≡ Some y → y ≡ Up n
      → IsAt tree weights sent k old n → (b : Bool) → old.node.node.stopped ≡ b
      → (answer : Outcome) → (turn : IsProgramTurn handed old new answer)
      → HeardOffered handed old new answer turn sent → HasOffered old answer sent later → Goes
  goes y n there is at true down answer turn heard offers =
      goes_stopped y n there is at down answer turn offers
  goes y n there is at false up answer turn heard offers =
      goes_up (at.on up) (ap (λ (m : NodeState). identity_of m.member) (at.up up) ∙ at.own) up
      (there ∙ ap Some is ∙ ap (λ m. Some (Up m)) (sym (at.up up))) answer turn heard offers

  pub goes_on : HasHost tree weights sent h.hosts k (Runs old) → (answer : Outcome)
      → (turn : IsProgramTurn handed old new answer)
      → HeardOffered handed old new answer turn sent → HasOffered old answer sent later → Goes
  goes_on (y, there, (n, is, at)) answer turn heard offers =
      goes y n there is at old.node.node.stopped refl answer turn heard offers

  -- ---- a program that is killed in the turn

  -- what its log is left with
  abbrev HasLeft : NodeState → Text → Type 0
  HasLeft n file = (ts : List Text) × HasNotes (identity tree weights k) ts file × IsLeft sent n ts

  left_in : (n : NodeState) → IsAt tree weights sent k old n → (b : Bool)
      → old.node.node.stopped ≡ b → (answer : Outcome)
      → (turn : IsProgramTurn handed old new answer)
      → HeardOffered handed old new answer turn sent → (file : Text)
      → MayBeLeft (file_history old.node.log.disk) (file_history new.node.log.disk) file
      → HasLeft n file
  left_in n at true down answer turn heard file gone =
      at.leaves file (subst (λ (x : History). MayLeave x file)
      (one_moment (file_history old.node.log.disk) gone.rest gone.moment gone.since
      (sym (unwritten down answer turn) ∙ gone.before) gone.behind) gone.may)
  left_in n at false up answer turn heard file gone =
      let left = left_in_turn file_disk
      udp_port handed old new
      (at.on up) agrees sent answer turn heard file gone in (
        left.0,
        subst (λ (i : Identity). HasNotes i left.0 file)
            (ap (λ (m : NodeState). identity_of m.member) (at.up up) ∙ at.own) left.1,
        subst (λ (m : NodeState). IsLeft sent m left.0) (at.up up) left.2,
      )

  pub killed_in : (n : NodeState) → IsAt tree weights sent k old n → (answer : Outcome)
      → (turn : IsProgramTurn handed old new answer)
      → HeardOffered handed old new answer turn sent → (file : Text)
      → MayBeLeft (file_history old.node.log.disk) (file_history new.node.log.disk) file
      → HasLeft n file
  killed_in n at answer turn heard file gone =
      left_in n at old.node.node.stopped refl answer turn heard file gone
