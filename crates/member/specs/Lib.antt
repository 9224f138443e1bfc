pub mod KnownBuilds
pub mod OpenClaims
pub mod Outcomes
pub mod Prepared
pub mod inside
pub mod shared
