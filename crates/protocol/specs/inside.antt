-- Definitions that only function bodies and proofs need.
pub mod First
