-- What bodies and proofs need, here and in crates that use this one.
pub mod EventLines
pub mod NodeLines
