mod Lines
mod Running
