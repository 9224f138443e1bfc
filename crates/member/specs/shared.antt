-- What bodies and proofs need, also those of crates above.
pub mod Fields
