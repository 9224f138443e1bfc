-- What members note and send can be encoded, and a step leaves a valid node.
pub mod Outcomes
pub mod Written
pub mod Restored
pub mod Leaving
