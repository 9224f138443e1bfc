-- Definitions that only function bodies and proofs need.
pub mod Keeping
pub mod Lacking
