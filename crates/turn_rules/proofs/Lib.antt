mod Answered
mod DoingOwn
pub mod FailedBelow
mod GivenFiles
mod Keeping
mod MadeAnswers
mod Offerings
mod OneChoice
pub mod Owned
mod SomeOwn
mod Waiting
