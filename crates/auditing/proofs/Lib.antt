mod Examples
mod Positions
mod Built
mod OfUnit
pub mod Fitting
pub mod Allowing
mod Places
mod Signatures
mod Needed
mod Reasons
pub mod Sets
mod OneVerdict
