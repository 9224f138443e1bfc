-- Reading builds, whatever the name is.
use Rattle.std.proofs.Common.{inl, inr}
use Rattle.faults.specs.Bytes.{Text}
use Rattle.program_io.specs.Files.{RefusesAt}
use Rattle.program_io.specs.declared.refusal.Refusal.{Refusal}
use Rattle.protocol.specs.Given.{Given}
use Rattle.input_files.specs.Builds.{AreBuilds, AreSpelledAt, RefusesBuilds, RefusesBuildsFile}

module _ (Gave : Text → Text → Type 0) (name : Text) where
  -- what a read of the name gave has the builds
  pub are_builds : (given : Given) → AreSpelledAt Gave name given → AreBuilds given
  are_builds given (builds, gave, are) = (builds, are)

  -- the report that it has none
  pub refused : (r : Refusal) → RefusesAt Gave name RefusesBuilds r → RefusesBuildsFile r
  refused r (inl system) = inl system
  refused r (inr (builds, gave, told)) = inr (builds, told)
