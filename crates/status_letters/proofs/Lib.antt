mod Reached
mod Tallied
mod Told
