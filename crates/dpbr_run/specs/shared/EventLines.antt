-- Steps of a run that prints its events.
use Rattle.std.specs.Prelude.{◌≡◌, ◌⊎◌, ◌+◌, ◌++◌, [], ◌∷◌, None, Some, length}
use Rattle.faults.specs.Bytes.{Text}
use Rattle.protocol.specs.Events.{Event}
use Rattle.simulator.specs.History.{History, IsHistory, taken}
use Rattle.simulator.specs.declared.run_fault.RunFault.{RunFault}
use Rattle.dpbr_run.specs.Events.{IsEventLine}
use Rattle.world.specs.Happening.{IsRefused}
use Rattle.world.specs.declared.fault.WorldFault.TheVariants.{Memory}

-- The event happened, and was kept; and the text got its line.
pub record TakesTelling (before : History) (e : Event) (after : History) (old new : Text) :
    Type 0 where
  pub was : IsHistory before
  pub is : IsHistory after
  pub kept : taken after ≡ taken before ++ e ∷ []
  pub fixed : (after.world.division ≡ before.world.division)
      × (after.world.weights ≡ before.world.weights)
  pub line : Text
  pub line_is : IsEventLine before.world (length (taken before) + 1) e after.world line
  pub appended : new ≡ old ++ line

-- Memory ran out, or the event is refused: it has this number among all.
abbrev pub WhyStopped : History → Event → RunFault → Type 0
WhyStopped before e f =
    ((f.event ≡ None) × (f.fault ≡ Memory))
    ⊎ ((f.event ≡ Some (length (taken before) + 1))
    × IsHistory before × ((f.fault ≡ Memory) ⊎ IsRefused before.world e f.fault))
