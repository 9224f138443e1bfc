pub mod Answering
pub mod Asked
mod Examples
mod FirstFiles
pub mod GivenJobs
pub mod GoodClaims
mod Heard
pub mod HeldRecords
pub mod Known
pub mod MadeBuilds
pub mod MembersStay
pub mod OneAnswer
pub mod PackageOrder
mod Ready
mod Receivers
pub mod Restored
mod Rows
pub mod StayingMembers
pub mod TheTheory
pub mod WaitingClaims
