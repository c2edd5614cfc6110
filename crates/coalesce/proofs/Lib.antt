mod Prelude
pub mod Joined
pub mod Steps
pub mod Sets
pub mod Between
