mod Examples
mod DigestExamples
mod Positions
mod Places
mod Found
mod Words
mod Fields
mod LineLemmas
pub mod First
mod Left
mod Numbers
pub mod Settings
mod Rows
mod Reading
mod Members
mod BarePackageLemmas
mod Parsing
mod GroupLines
mod Feeding
mod Counting
pub use Rattle.pkgpath.proofs.Without
