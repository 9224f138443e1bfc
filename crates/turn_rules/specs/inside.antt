-- What only bodies and proofs need.
pub mod Answering
pub mod Keeping
