-- Definitions that function bodies and proofs need, also those of crates above.
pub mod Agreed
pub mod Keeping
pub mod Marks
pub mod Shown
