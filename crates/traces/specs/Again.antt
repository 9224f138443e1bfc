-- What is parsed again as it was written.
use Rattle.std.specs.Prelude.{◌≡◌, ◌≤◌, true, List, All}
use Rattle.std.specs.Str.{is_utf8}
use Rattle.faults.specs.Bytes.{Text}
use Rattle.ballots.specs.Weights.{AreWeights}
use Rattle.protocol.specs.Events.{Event, Claim, Built, Failed, Nudge, Ask, Deliver, Stop, StopIn, Restart, is_step}
use Rattle.protocol.specs.declared.event.Left.{Left}
use Rattle.protocol.specs.declared.event.Left.TheVariants as left
use Rattle.hex.specs.Hex.{IsBytes}
use Rattle.package_record.specs.Content.{NamedFile}
use Rattle.pkgpath.specs.PkgPath.{IsPath}
use Rattle.traces.specs.Events.{most}
use Rattle.traces.specs.Trace.{Trace}

-- the file's name is UTF-8; in other names, bytes are replaced when they are written
pub record IsTextFile (f : NamedFile) : Type 0 where
  pub bytes : IsBytes f.bytes
  pub name : is_utf8 f.name ≡ true

-- a path with such files
pub record IsTextPackage (p : Text × List NamedFile) : Type 0 where
  pub path : IsPath p.0
  pub files : All IsTextFile p.1

-- what is left of the note are bytes
abbrev pub AreLeft : Left → Type 0
AreLeft left.None = Prim.Unit {0}
AreLeft (left.Torn bytes) = IsBytes bytes
AreLeft left.Whole = Prim.Unit {0}

-- Numbers are in range, paths are canonical, names of files are UTF-8, and a stop inside an event
-- is one inside a step.
abbrev pub IsTextEvent : Event → Type 0
IsTextEvent (Claim n path host above) =
    (n ≤ 255) × IsPath path × (host ≤ 65535) × (above ≤ most)
IsTextEvent (Built n path packages) = (n ≤ 255) × IsPath path × All IsTextPackage packages
IsTextEvent (Failed n path) = (n ≤ 255) × IsPath path
IsTextEvent (Nudge n) = n ≤ 255
IsTextEvent (Ask n path) = (n ≤ 255) × IsPath path
IsTextEvent (Deliver d n) = (d ≤ most) × (n ≤ 255)
IsTextEvent (Stop n) = n ≤ 255
IsTextEvent (StopIn e left) = (is_step e ≡ true) × IsTextEvent e × AreLeft left
IsTextEvent (Restart n) = n ≤ 255

-- the weights are valid, and so are the events
pub record IsTextTrace (t : Trace) : Type 0 where
  pub weights : AreWeights t.weights
  pub events : All IsTextEvent t.events
