pub mod Sides
pub mod Polygraphs
pub mod Held
pub mod Rivals
pub mod Limits
pub mod Places
