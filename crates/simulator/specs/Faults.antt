-- The number and the cause of a run's refusal.
use Rattle.std.specs.Prelude.{ℕ, Option}
use Rattle.world.specs.Refusals as world
use Rattle.simulator.specs.declared.run_fault.RunFault.{RunFault}

-- the number that is reported for a run's refusal: that of the fault
abbrev pub number_of : RunFault → ℕ
number_of f = world.number_of f.fault

-- the number of the underlying refusal of the fault
abbrev pub cause_of : RunFault → Option ℕ
cause_of f = world.cause_of f.fault
