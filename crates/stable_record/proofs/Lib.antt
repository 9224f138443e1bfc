pub mod Along
mod Answered
mod AsLeft
mod Bytes
mod Entries
mod Examples
mod Files
mod Filled
mod Foretold
mod Headers
mod Kept
mod NewLog
mod NotesRead
mod Steps
mod Opens
mod Torn
mod Trim
