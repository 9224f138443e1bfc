-- The clauses, along runs.
mod BuildsOfActs
pub mod BuiltPackages
mod ClaimJobs
mod InstalledClosures
pub mod OneListOfRuns
pub mod RunInvariants
mod SignedDependencies
