-- What only bodies and proofs need.
pub mod Cuts
pub mod Given
pub mod Parts
