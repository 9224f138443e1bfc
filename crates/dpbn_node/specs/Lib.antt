pub mod Given
pub mod Keys
pub mod Node
pub mod Repeats
pub mod Requests
pub mod Runs
pub mod Starts
pub mod Telling
