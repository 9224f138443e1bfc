pub mod Held
pub mod HeldRefusals
pub mod Status
pub mod inside
