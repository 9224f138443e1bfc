-- Reading builds from texts and files, and what is reported about bad ones.
use Rattle.std.specs.Prelude.{◌≡◌, ◌⊎◌, None, Some}
use Rattle.faults.specs.Bytes.{Text}
use Rattle.program_io.specs.Refusals.{IsSystemRefusal}
use Rattle.program_io.specs.declared.refusal.Refusal.{Refusal}
use Rattle.protocol.specs.Given.{Given}
use Rattle.traces.specs.Builds.{builds_of}

-- some text has these builds
abbrev pub AreBuilds : Given → Type 0
AreBuilds builds = (text : Text) × (builds_of text ≡ Some builds)

-- a read of this name gave a text with these files for paths
abbrev pub AreSpelledAt : (Text → Text → Type 0) → Text → Given → Type 0
AreSpelledAt Gave name given = (builds : Text) × Gave name builds × (builds_of builds ≡ Some given)

-- how a text without files for paths is reported: as a trace that is bad outside its events
abbrev pub builds_refusal : Refusal
builds_refusal = record { number = 1305; place = Some 0 }

-- what is reported about a text without files for paths
abbrev pub RefusesBuilds : Text → Refusal → Type 0
RefusesBuilds builds r = (builds_of builds ≡ None) × (r ≡ builds_refusal)

-- what is reported about a file that can't be read, or whose text has no builds
abbrev pub RefusesBuildsFile : Refusal → Type 0
RefusesBuildsFile r = IsSystemRefusal r ⊎ ((text : Text) × RefusesBuilds text r)
