-- What only bodies and proofs need.
pub mod Asking
pub mod Deciding
pub mod NodeSteps
pub mod Opening
pub mod Standing
pub mod Starting
pub mod Stops
pub mod Tables
