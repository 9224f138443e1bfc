pub mod Turns
pub mod Build
