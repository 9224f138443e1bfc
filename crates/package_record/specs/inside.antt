pub mod Cursor
pub mod Given
pub mod Hashed
pub mod Heads
pub mod Names
pub mod Same
