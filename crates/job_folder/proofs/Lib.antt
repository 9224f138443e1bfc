mod Lines
mod Tellings
