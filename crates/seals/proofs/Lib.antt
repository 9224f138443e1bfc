mod Bits
pub mod Lengths
mod SealLemmas
mod Vectors
