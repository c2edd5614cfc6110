pub mod ReachRows
pub mod Sources
pub mod Parts
