mod Beginnings
pub mod Once
pub mod Refusing
