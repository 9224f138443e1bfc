mod EventLines
pub mod NodeLines
mod ReadAgain
mod Refusing
