pub mod Marked
pub mod Parts
