mod Below
mod ByCase
mod Chosen
pub mod Coming
mod Done
mod Left
mod Only
mod Refused
mod Room
mod Turned
pub mod Turns
pub mod Each
