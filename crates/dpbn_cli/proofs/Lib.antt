mod Examples
mod Named
mod Refused
mod Released
mod Taken
