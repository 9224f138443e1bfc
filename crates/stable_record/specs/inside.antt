pub mod Coded
pub mod Down
pub mod Noted
pub mod Possible
pub mod Reading
pub mod Staged
