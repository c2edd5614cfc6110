mod Prelude
pub mod Counted
pub mod Cubes
