mod Exchanged
mod Logs
mod Shown
mod Told
mod Turns
