-- What only bodies and proofs need.
pub mod Turning
