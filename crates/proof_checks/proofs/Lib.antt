mod Prelude
pub mod Checks
pub mod Hints
pub mod Once
pub mod Passed
pub mod Places
pub mod Propagating
pub mod Reaching
pub mod Rounds
pub mod Taken
