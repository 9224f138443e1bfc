pub mod Effects
pub mod Faults
pub mod History
pub mod inside
