pub mod Statistics
pub mod Commands
pub mod Checked
pub mod Explained
