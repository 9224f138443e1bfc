pub mod Value
pub mod Weights
pub mod Support
pub mod Pledge
pub mod InTheAgreement
pub mod inside
