pub mod Calls
pub mod inside
