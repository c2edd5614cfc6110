pub mod KeptEdges
pub mod Tested
