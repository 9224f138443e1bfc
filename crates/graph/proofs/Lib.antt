mod Links
pub mod Lists
pub mod Marked
mod Ranges
pub mod Turned
pub mod Walks
