-- The builds in facts.
use Rattle.std.proofs.Common.{◌<◌, ◌≤◌, length, arith}
use Rattle.faults.specs.Bytes.{Text}
use Rattle.package_record.specs.Build.{IsBuild, build_text}
use Rattle.package_record.specs.Content.{most_bytes}
use Rattle.ballots.specs.Value.{Value}
use Rattle.ballots.specs.declared.message.Fact.{Fact}
use Rattle.ballots.specs.declared.message.Fact.TheVariants.{Opened, Promised, Voted, Held}
use Rattle.wire.specs.inside.Parts.{HasGoodBuild}
use Rattle.wire.specs.Messages.{IsFact}

-- a fact that can be encoded has no build or a valid one
pub fact_has_good_build : (name : Text) (f : Fact Value) → IsFact name f → HasGoodBuild f
fact_has_good_build name (Opened round) good = tt
fact_has_good_build name (Promised c) good = tt
fact_has_good_build name (Voted c v) good = good.1.build_is
fact_has_good_build name (Held v) good = good.build_is

-- the length of a build's text fits in four bytes
pub build_length_fits : (v : Value) → IsBuild v → length (build_text v) < 4294967296
build_length_fits v good =
    let few : length (build_text v) ≤ most_bytes = good.fits in
    omega arith
