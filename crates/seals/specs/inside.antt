-- What only bodies and proofs need.
pub mod Key
pub mod Seal
