mod Prelude
pub mod Matched
pub mod Added
pub mod Whole
