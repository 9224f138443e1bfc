pub mod acts
mod answers
pub mod builds
pub mod clauses
pub mod matching
pub mod nodes
pub mod sent
pub mod uses
