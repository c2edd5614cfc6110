mod Prelude
pub mod Allowed
mod Faults
mod Singles
mod Decided
