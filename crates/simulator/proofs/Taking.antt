-- A node's step on what an event asks, once it is ready, and the state after a refusal.
use Rattle.std.proofs.Common.{◌≡◌, ◌⊎◌, inl, inr, ℕ, List, Option, Some, Ok, Err, refl, sym, ap, subst, ◌∙◌}
use Rattle.faults.specs.Bytes.{Text}
use Rattle.protocol.specs.Events.{Event}
use Rattle.ballots.specs.declared.message.Note.{Note}
use Rattle.one_list.proofs.nodes.NodeSteps.{IsByStep, member_left, notes_left}
use Rattle.node.proofs.Finishing.{note_is}
use Rattle.node.specs.Calls.{IsLogCause, left_by}
use Rattle.node.specs.OnLog.{IsOnLog, LacksRoom, identity_of, texts_of}
use Rattle.node.specs.State.{LoggedNode, NodeState}
use Rattle.node.specs.Step.{Asked, ReadyStep, Taken, Takes, note_in, taken_by}
use Rattle.node.specs.declared.fault.NodeFault.{NodeFault}
use Rattle.node.specs.declared.fault.NodeFault.TheVariants as node_fault
use Rattle.protocol.specs.State.{Value}
use Rattle.simulator.specs.declared.event_effects.EventEffects.{EventEffects}
use Rattle.simulator.specs.declared.tables.Tables.{Tables}
use Rattle.simulator.specs.inside.Asking.{IsReadied, asked_by, refused_by}
use Rattle.simulator.specs.inside.NodeSteps.{HasFinished, RefusesStep, TakesStep}
use Rattle.stable_record.specs.InMemory.{mem_history}
use Rattle.stable_record.specs.OpenLog.{Holds}
use Rattle.stable_record.specs.declared.log.Log.{Log}
use Rattle.stable_record.specs.declared.log_fault.LogFault.TheVariants as log
use Rattle.stable_record.specs.declared.mem_disk.MemDisk.{MemDisk}
use Rattle.world.specs.Happening.{IsRefusedByNode}
use Rattle.world.specs.World.{World}
use Rattle.world.specs.declared.fault.WorldFault.TheVariants as worlds

-- ---- refusals

-- a refusal of a step, as the world has it
pub told_so : (w : World) (e : Event) (f : NodeFault) → IsByStep (Err f)
    → IsRefusedByNode w e (worlds.Node f) → IsRefusedByNode w e (refused_by f)
told_so w e node_fault.Memory kind r = absurd kind
told_so w e (node_fault.Refused f) kind r = r
told_so w e (node_fault.Log f) kind r = r
told_so w e node_fault.Stopped kind r = r
told_so w e (node_fault.Foreign f) kind r = r

-- A node with the same log, member and notes is on its log.
pub stays_on_log : (n m : LoggedNode MemDisk) → IsOnLog mem_history n → m.log ≡ n.log
    → m.node.member ≡ n.node.member → m.node.notes ≡ n.node.notes → IsOnLog mem_history m
stays_on_log n m on log_is member notes = record {
  owner = ap (λ (l : Log MemDisk). l.identity) log_is ∙ on.owner ∙ ap identity_of (sym member);
  holds = subst (λ (l : Log MemDisk). Holds mem_history l (texts_of m.node.notes)) (sym log_is)
      (subst (λ notes. Holds mem_history n.log (texts_of notes)) (sym notes) on.holds);
}

-- The ready step is the right one, and the node is unchanged.
pub record StandsReady (sent : List Text) (e : Event) (n m : NodeState) (t : Taken) : Type 0 where
  pub asked : Asked
  pub asks : asked_by sent e ≡ Some asked
  pub takes : Takes n asked (Ok t)
  pub stays : m ≡ n

pub stands_ready : (sent : List Text) (e : Event) (n m : NodeState) (t : Taken)
    → IsReadied sent e n m (Ok t) → StandsReady sent e n m t
stands_ready sent e n m t (inl (memory, same)) =
    absurd (let wrong : Ok t ≡ Err node_fault.Memory = memory in cc)
stands_ready sent e n m t (inr (asked, asks, done)) = record {
  asked = asked;
  asks = asks;
  takes = subst (Takes n asked) done.given done.takes;
  stays = done.state;
}

-- What is refused is rightly refused.
pub refused_ready : (sent : List Text) (e : Event) (n m : LoggedNode MemDisk) (f : NodeFault)
    → IsReadied sent e n.node m.node (Err f) → RefusesStep sent e n m f
refused_ready sent e n m f (inl (memory, same)) =
    inl (let is : f ≡ node_fault.Memory = cc in is, same)
refused_ready sent e n m f (inr (asked, asks, done)) = by done.given
  where
    by : (f ≡ node_fault.Memory) ⊎ (done.right ≡ Err f) → RefusesStep sent e n m f
    by (inl memory) = inl (memory, done.state ∙ ap (left_by n.node asked) memory)
    by (inr right) = inr (inl (record {
      asked = asked;
      asks = asks;
      refuses = subst (Takes n.node asked) right done.takes;
      leaves = done.state;
    }))

-- And the node is still on its log.
pub refused_on_log : (sent : List Text) (e : Event) (n m : LoggedNode MemDisk) (f : NodeFault)
    → IsReadied sent e n.node m.node (Err f) → m.log ≡ n.log → IsOnLog mem_history n
    → IsOnLog mem_history m
refused_on_log sent e n m f (inl (memory, same)) log_is on =
    stays_on_log n m on log_is (ap (λ (s : NodeState). s.member) same)
    (ap (λ (s : NodeState). s.notes) same)
refused_on_log sent e n m f (inr (asked, asks, done)) log_is on =
    stays_on_log n m on log_is
    (ap (λ (s : NodeState). s.member) done.state ∙ member_left n.node asked f)
    (ap (λ (s : NodeState). s.notes) done.state ∙ notes_left n.node asked f)

-- A node whose step is ready is still on its log.
pub ready_on_log : (sent : List Text) (e : Event) (n m : LoggedNode MemDisk) (r : ReadyStep)
    → IsReadied sent e n.node m.node (Ok (taken_by n.node r)) → m.log ≡ n.log
    → IsOnLog mem_history n → IsOnLog mem_history m
ready_on_log sent e n m r ready log_is on =
    let s = stands_ready sent e n.node m.node (taken_by n.node r) ready in
    stays_on_log n m on log_is (ap (λ (x : NodeState). x.member) s.stays)
    (ap (λ (x : NodeState). x.notes) s.stays)

-- ---- the step

-- Over a disk in memory a step fails only if memory runs out, or if the log has no room.
pub log_causes : (l : Log MemDisk) (noted : Option (Note Value)) (f : NodeFault)
    → IsLogCause l noted f → (f ≡ node_fault.Log log.Device → ⊥)
    → (f ≡ node_fault.Memory) ⊎ ((f ≡ node_fault.Log log.Full) × LacksRoom l noted)
log_causes l noted node_fault.Memory cause works = inl refl
log_causes l noted (node_fault.Refused r) cause works = absurd cause
log_causes l noted (node_fault.Log log.Device) cause works = absurd (works refl)
log_causes l noted (node_fault.Log log.Full) cause works = inr (refl, cause)
log_causes l noted (node_fault.Log log.Memory) cause works = absurd cause
log_causes l noted (node_fault.Log log.MustReopen) cause works = absurd cause
log_causes l noted (node_fault.Log log.NotALog) cause works = absurd cause
log_causes l noted (node_fault.Log log.OtherCluster) cause works = absurd cause
log_causes l noted node_fault.Stopped cause works = absurd cause
log_causes l noted (node_fault.Foreign f) cause works = absurd cause

-- a node with the same fields
pub same_node : (n m : LoggedNode MemDisk) → m.node ≡ n.node → m.log ≡ n.log → m ≡ n
same_node n m node log_is = λ i. record { node = node i; log = log_is i }

-- A step that was made ready and finished is taken.
pub takes_step : (weights : List ℕ) (e : Event) (old new : Tables) (n m k : LoggedNode MemDisk)
    (r : ReadyStep) (effects : EventEffects)
    → IsReadied old.sent e n.node m.node (Ok (taken_by n.node r))
    → m.log ≡ n.log → HasFinished weights old m r new k effects
    → TakesStep weights e old n new k effects
takes_step weights e old new n m k r effects ready log_is done =
    let s = stands_ready old.sent e n.node m.node (taken_by n.node r) ready in record {
      ready = r;
      asked = s.asked;
      asks = s.asks;
      takes = s.takes;
      finished = subst (λ (x : LoggedNode MemDisk). HasFinished weights old x r new k effects)
          (same_node n m s.stays log_is) done;
    }

-- A step that was made ready and not finished is refused: out of memory, or the log is full.
pub refuses_step : (sent : List Text) (e : Event) (n m k : LoggedNode MemDisk) (r : ReadyStep)
    (f : NodeFault) → IsReadied sent e n.node m.node (Ok (taken_by n.node r)) → m.log ≡ n.log
    → k.node ≡ m.node
    → (f ≡ node_fault.Memory)
    ⊎ ((f ≡ node_fault.Log log.Full) × LacksRoom m.log (note_in r.step))
    → RefusesStep sent e n k f
refuses_step sent e n m k r f ready log_is stays why = by why
  where
    s : StandsReady sent e n.node m.node (taken_by n.node r)
    s = stands_ready sent e n.node m.node (taken_by n.node r) ready

    by : (f ≡ node_fault.Memory)
        ⊎ ((f ≡ node_fault.Log log.Full) × LacksRoom m.log (note_in r.step))
        → RefusesStep sent e n k f
    by (inl memory) = inl (memory, stays ∙ s.stays)
    by (inr (full, lacks)) = inr (inr (record {
      asked = s.asked;
      asks = s.asks;
      taken = taken_by n.node r;
      takes = s.takes;
      lacks = subst (λ (l : Log MemDisk). LacksRoom l (taken_by n.node r).answer.note) log_is
          (subst (LacksRoom m.log) (sym (note_is n.node.member r.step)) lacks);
      fault = full;
      leaves = stays ∙ s.stays;
    }))
