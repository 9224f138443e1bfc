mod Counted
mod Once
