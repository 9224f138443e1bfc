pub mod PkgName
pub mod Pieces
pub mod Version
pub mod Rest
pub mod Order
pub mod Refusals
pub mod Laws
pub mod Inside
