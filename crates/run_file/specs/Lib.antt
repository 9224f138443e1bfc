pub mod Difference
pub mod Found
pub mod Judging
pub mod Looking
pub mod Refusals
pub mod RunFile
pub mod Starts
pub mod inside
