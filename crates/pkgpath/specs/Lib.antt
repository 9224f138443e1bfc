pub mod Kind
pub mod Laws
pub mod PkgPath
pub mod Refusals
