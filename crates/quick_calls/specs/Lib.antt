pub mod Others
pub mod Printed
pub mod Stopped
