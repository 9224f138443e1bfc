mod Examples
mod Fields
pub mod FlatLines
mod Lines
mod OneList
mod Saying
mod Spelling
