-- How long a receive waits if nothing came.
use Rattle.std.specs.Prelude.{max}
use Rattle.udp.specs.declared.patience.Hurry.{Hurry}
use Rattle.udp.specs.declared.patience.Hurry.TheVariants.{Brief, Patient, Slow, Steady}
use Rattle.udp.specs.declared.patience.Patience.{Patience}

-- at least as many looks as make the naps between them a second in all
abbrev pub slow : Patience → Patience
slow patience = record { looks = max patience.looks 1019 }

-- as many looks as make the naps between them 20 ms in all
abbrev pub steady : Patience
steady = record { looks = 39 }

-- how long a receive waits: one look; 20 ms; as long as the port's patience says; or at least a
-- second
abbrev pub patience_at : Hurry → Patience → Patience
patience_at Brief patience = record { looks = 1 }
patience_at Steady patience = steady
patience_at Patient patience = patience
patience_at Slow patience = slow patience
