pub mod Texts
pub mod Graphs
