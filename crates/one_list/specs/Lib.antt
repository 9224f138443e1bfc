pub mod Local
pub mod Lost
pub mod Matches
pub mod MatchingLaws
pub mod Mirrored
pub mod Needs
pub mod Safety
