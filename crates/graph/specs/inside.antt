-- Definitions that only function bodies and proofs need.
pub mod Links
pub mod Ranges
