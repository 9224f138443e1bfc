-- How a world matches the agreements.
pub mod ActsByPath
pub mod CutSteps
pub mod LawfulMatch
pub mod MatchAfterEvent
pub mod MemberSteps
pub mod SpokenMessages
pub mod StopActs
pub mod StopsInSteps
