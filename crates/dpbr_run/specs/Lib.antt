pub mod Events
pub mod ListLaws
pub mod Run
pub mod shared
