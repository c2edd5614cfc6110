pub mod Rows
pub mod Sentences
pub mod Words
pub mod Evidence
pub mod Names
