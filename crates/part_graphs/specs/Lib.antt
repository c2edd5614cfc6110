pub mod Boxes
pub mod Arrows
pub mod Points
pub mod Hops
pub mod Graphs
