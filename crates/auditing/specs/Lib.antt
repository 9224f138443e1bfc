pub mod Allowed
pub mod Fits
pub mod Laws
pub mod inside
pub mod Verdicts
