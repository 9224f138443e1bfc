pub mod Answers
pub mod Laws
pub mod Refusals
pub mod Tasks
