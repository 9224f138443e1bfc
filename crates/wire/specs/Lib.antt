pub mod Refusals
pub mod Messages
pub mod Pieces
pub mod Spelling
pub mod Reading
pub mod Joining
pub mod Laws
pub mod inside
