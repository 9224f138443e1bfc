mod Stopping
mod Good
mod Statuses
