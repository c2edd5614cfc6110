mod Prelude
pub mod Places
pub mod Finds
pub mod Faultless
pub mod Unlost
pub mod Uncounted
