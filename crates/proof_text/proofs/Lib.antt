mod Prelude
pub mod Cutting
pub mod Digits
pub mod Packing
pub mod Stepping
pub mod UpToZero
