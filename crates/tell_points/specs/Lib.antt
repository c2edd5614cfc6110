pub mod Lines
pub mod Short
pub mod Names
pub mod Told
