mod Agreeing
mod Beginning
mod Bits
mod Decided
pub mod Dependents
mod Division
mod ExampleTrees
mod DivisionExamples
mod Dropping
mod Examples
mod Finding
pub mod InOrder
pub mod Kept
pub mod Lists
mod Lowering
pub mod Marked
pub mod Names
pub mod Numbered
pub mod Once
pub mod OneLetter
mod OneMore
mod OneUnit
pub mod Places
pub mod Reading
mod Settled
pub mod Shown
mod Sifting
mod SoMany
pub mod SomeLetter
mod Tally
pub mod Together
mod Told
mod UnitExamples
mod Unmarked
mod Waiting
pub mod WellMade
pub use Rattle.listing.proofs.Settings
