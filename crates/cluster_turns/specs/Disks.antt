-- What a turn does to disks, by its result.
use Rattle.std.specs.Prelude.{◌≡◌, ◌⊎◌, ◌++◌, ℕ, [], ◌∷◌, Option, Result, IfErr, IfNone, IfOk, IfSome}
use Rattle.turn_rules.specs.declared.fault.TurnFault.{TurnFault}
use Rattle.turn_rules.specs.declared.fault.TurnFault.TheVariants.{Down}
use Rattle.protocol.specs.Events.{Event, StopIn, event_view, node_of}
use Rattle.protocol.specs.declared.event.Event as declared
use Rattle.protocol.specs.declared.event.Left.TheVariants as left
use Rattle.cluster_turns.specs.State.{ClusterState, taken}
use Rattle.cluster_turns.specs.Turn.{AreUntouched, HasFailedAt, LeavesItsNotes, WereKept}
use Rattle.stable_record.specs.declared.disk.Disk.{Ghosts as Disk}

-- What the turn did to the disks:
-- - A crash at any moment of the turn, or later, leaves the log of the event's node with its notes,
--   with that of its step or without it. This also holds if the node went down in the step because
--   its device failed.
-- - If no event was taken and no node went down, nothing was done to any disk.
-- - A disk that keeps to the disk model did so before.
pub record LeavesDisks {D P : Type 0} (disk : Disk D) (old new : ClusterState D P)
    (answer : Result (Option declared.Event) TurnFault) : Type 0 where
  pub any_moment_taken : IfOk answer (λ o. IfSome o
      (λ e. LeavesItsNotes disk old new (event_view e) (node_of (event_view e))))
  pub any_moment : IfErr answer (λ f. (e : Event) (k : ℕ) → f ≡ Down k
      → taken new ≡ taken old ++ StopIn e left.None ∷ []
      → LeavesItsNotes disk old new e k)
  pub device : IfErr answer (λ f. (k : ℕ) → f ≡ Down k → HasFailedAt disk old new k)
  pub untouched : IfErr answer (λ f. ((k : ℕ) × (f ≡ Down k)) ⊎ AreUntouched disk old new)
  pub nothing_touched : IfOk answer (λ o. IfNone o (AreUntouched disk old new))
  pub kept_before : WereKept disk old new
