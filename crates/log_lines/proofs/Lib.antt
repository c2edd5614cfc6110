pub mod Own
pub mod Nodes
