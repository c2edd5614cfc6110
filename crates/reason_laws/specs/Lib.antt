pub mod Crossed
pub mod Reasons
