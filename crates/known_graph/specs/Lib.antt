pub mod Bits
pub mod Pairs
pub mod Held
pub mod Graphs
pub mod Tree
pub mod Tests
pub mod Groups
pub mod Moments
