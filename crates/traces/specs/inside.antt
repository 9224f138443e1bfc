-- What only bodies and proofs need.
pub mod Given
pub mod Kept
pub mod Listing
pub mod Trees
