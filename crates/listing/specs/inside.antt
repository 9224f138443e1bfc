pub mod Parts
pub mod Entries
pub mod Table
pub mod BarePackages
pub mod Groups
pub mod Hashing
