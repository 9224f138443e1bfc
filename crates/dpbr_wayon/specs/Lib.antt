pub mod Refusals
pub mod WayOn
pub mod inside
