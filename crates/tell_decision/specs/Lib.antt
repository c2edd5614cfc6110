pub mod Explained
pub mod Names
pub mod Short
