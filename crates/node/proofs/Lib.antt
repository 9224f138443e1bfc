pub mod ranges
pub mod Pieces
mod Found
pub mod Sent
mod Readying
pub mod Finishing
pub mod OneStep
mod Reading
mod Places
mod AtFirst
pub mod Opened
mod OneNode
mod Coming
