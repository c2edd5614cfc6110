mod Prelude
pub mod Reached
pub mod Satisfied
pub mod Assigned
pub mod Clauses
pub mod Same
pub mod Left
