-- What bodies and proofs of other crates need, too.
pub mod Matches
