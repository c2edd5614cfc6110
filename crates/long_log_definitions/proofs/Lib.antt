pub mod Repeats
pub mod Lines
pub mod Texts
