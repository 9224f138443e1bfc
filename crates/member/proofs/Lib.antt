mod BuiltAnswers
mod Changing
mod Counted
mod FoundRecords
mod Fresh
mod GivenFiles
pub mod Handling
mod Heard
pub mod HeldUnits
mod KeptDigests
mod KeptFacts
pub mod KeptNumbers
mod KnownUnits
mod MadeBuild
mod MadePackages
pub mod Named
mod NewClaims
mod OneMore
mod Preparing
mod Restoring
mod SaidAgain
mod SameStep
mod Signing
mod Taking
mod UnitPackages
