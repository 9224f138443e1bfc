pub mod Lists
pub mod Marks
pub mod Reach
pub mod Walked
pub mod inside
pub mod shared
