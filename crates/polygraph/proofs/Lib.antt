mod Prelude
pub mod Placed
pub mod Kept
pub mod Each
pub mod Readers
