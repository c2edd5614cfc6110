mod Prelude
pub mod Reading
pub mod Names
pub mod Printing
pub mod Accepted
