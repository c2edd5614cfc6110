pub mod Aborted
pub mod Meaning
