pub mod Weights
pub mod Tally
pub mod Steps
