-- What only bodies and proofs need.
pub mod Cases
pub mod Opening
pub mod Standing
pub mod Turning
