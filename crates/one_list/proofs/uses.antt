-- For crates that run nodes.
pub mod HostedNodes
