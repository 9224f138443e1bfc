-- What nodes are, know and note.
pub mod ClaimsNamed
pub mod EqualParts
pub mod MemberLogs
pub mod NodeSteps
pub mod NodesAsMembers
pub mod OpenClaims
pub mod StepsInTheory
pub mod StopsAndRestarts
pub mod WritableStates
