pub mod Text
pub mod Halves
