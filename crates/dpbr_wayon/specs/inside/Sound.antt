-- What events that happened satisfy, besides what their types say, so that a trace can contain
-- them.
use Rattle.std.specs.Prelude.{◌≡◌, ℕ, true, List, All}
use Rattle.std.specs.Str.{is_utf8}
use Rattle.protocol.specs.Events.{Event, Claim, Built, Failed, Nudge, Ask, Deliver, Stop, StopIn, Restart, is_step}
use Rattle.package_record.specs.Content.{NamedFile}
use Rattle.protocol.specs.Given.{Given}

-- the names of these files are text
abbrev pub HaveTextNames : List NamedFile → Type 0
HaveTextNames files = All (λ f. is_utf8 f.name ≡ true) files

-- the names of all these files are text
abbrev pub AreTextFiles : Given → Type 0
AreTextFiles given = All (λ g. HaveTextNames g.1) given

-- names of files are text, and a stop is during a step of a node
abbrev pub IsSound : Event → Type 0
IsSound (Claim n path host above) = Prim.Unit {0}
IsSound (Built n path given) = AreTextFiles given
IsSound (Failed n path) = Prim.Unit {0}
IsSound (Nudge n) = Prim.Unit {0}
IsSound (Ask n path) = Prim.Unit {0}
IsSound (Deliver d n) = Prim.Unit {0}
IsSound (Stop n) = Prim.Unit {0}
IsSound (StopIn e left) = (is_step e ≡ true) × IsSound e
IsSound (Restart n) = Prim.Unit {0}
