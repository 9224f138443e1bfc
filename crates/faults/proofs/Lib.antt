pub mod Ascending
pub mod FirstPlaces
pub mod Members
pub mod Sets
