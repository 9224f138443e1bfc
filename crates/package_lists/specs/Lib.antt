pub mod List
pub mod ListLaws
pub mod ListRefusals
pub mod ListText
pub mod inside
