-- What only bodies and proofs need.
pub mod Listed
pub mod Signatures
