-- What only bodies and proofs need.
pub mod Counting
pub mod Digests
pub mod Packages
pub mod Steps
pub mod Units
pub mod Waiting
