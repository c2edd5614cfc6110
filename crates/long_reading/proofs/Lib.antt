mod Prelude
pub mod Read
pub mod Stating
pub mod Sorting
pub mod Accepting
