mod Prelude
pub mod Placing
pub mod Counted
pub mod Early
pub mod Mismatch
pub mod Whole
pub mod Marks
pub mod Turns
pub mod LeastEnd
pub mod Keys
