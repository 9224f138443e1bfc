pub mod Builds
pub mod Traces
