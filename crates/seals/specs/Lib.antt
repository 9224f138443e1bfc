pub mod Hmac
pub mod KeyText
pub mod Run
pub mod Sealed
pub mod inside
