-- Parts of bodies and facts.
use Rattle.std.specs.Prelude.{◌≡◌, Result, Ok, Err, None, Some}
use Rattle.package_record.specs.Build.{IsBuild}
use Rattle.ballots.specs.declared.message.Body.{Body}
use Rattle.ballots.specs.declared.message.Fact.{Fact}
use Rattle.ballots.specs.declared.message.Fact.TheVariants.{Opened, Promised, Voted, Held}
use Rattle.ballots.specs.Value.{Value}
use Rattle.wire.specs.Pieces.{carried_in}
use Rattle.wire.specs.declared.datagram.Carrier.{Carrier}

-- the carrier and the build, if the body has a build, and else the unchanged body
abbrev pub TakenApart : Body Value → Result (Carrier × Value) (Body Value) → Type 0
TakenApart body (Ok parts) = carried_in body ≡ Some parts
TakenApart body (Err same) = (same ≡ body) × (carried_in body ≡ None)

-- the fact has no build, or a valid one
abbrev pub HasGoodBuild : Fact Value → Type 0
HasGoodBuild (Opened round) = Unit {0}
HasGoodBuild (Promised c) = Unit {0}
HasGoodBuild (Voted c v) = IsBuild v
HasGoodBuild (Held v) = IsBuild v
