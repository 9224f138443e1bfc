pub mod Running
pub mod Cluster
