mod Prelude
pub mod Pushes
pub mod Gathered
pub mod Nexts
pub mod Heads
pub mod Inside
pub mod Backwards
pub mod Holding
