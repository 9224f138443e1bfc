-- Definitions that only function bodies and proofs need.
pub mod Gathering
pub mod Lacking
pub mod Queueing
pub mod Row
pub mod Searching
pub mod UnitKeeping
