pub mod Edges
pub mod Refuted
