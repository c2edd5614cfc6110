mod Prelude
pub mod Held
pub mod KeptBits
