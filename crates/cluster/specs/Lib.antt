pub mod Printed
pub mod Stopped
