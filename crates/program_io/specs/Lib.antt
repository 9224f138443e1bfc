pub mod Files
pub mod Listings
pub mod NodeLine
pub mod Printing
pub mod Refusals
pub mod Stops
