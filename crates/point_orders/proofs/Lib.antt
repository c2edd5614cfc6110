mod Points
pub mod Resolved
