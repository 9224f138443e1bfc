pub mod Spec
pub mod Reading
pub mod Matching
pub mod Refusals
