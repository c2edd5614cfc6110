pub mod Between
pub mod Added
