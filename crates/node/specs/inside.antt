-- What only bodies and proofs need.
pub mod Opening
pub mod Prepared
pub mod Stepping
