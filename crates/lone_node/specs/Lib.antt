pub mod State
pub mod Handed
pub mod Turn
pub mod Faults
pub mod Turns
pub mod inside
pub use Rattle.turn_rules.specs.Pending
