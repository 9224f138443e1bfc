-- Each event has one answer, and logs that are lost matter to nobody.
pub mod HappensOrRefused
pub mod LostLogs
mod LostNodes
pub mod OneNextWorld
