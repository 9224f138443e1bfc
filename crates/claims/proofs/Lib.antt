pub mod Agreed
pub mod AgreedList
pub mod Kept
pub mod Majorities
mod Matching
pub mod Nodes
pub mod Order
pub mod Restored
pub mod Sound
mod Steps
pub mod Synod
mod Weights
pub use Rattle.pkgpath.proofs.FirstFault
pub use Rattle.pkgpath.proofs.Pieces
