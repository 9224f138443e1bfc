-- Definitions that function bodies and proofs need, also those of crates above.
pub mod Walks
