pub mod Cubes
pub mod State
pub mod Steps
pub mod Runs
pub mod Trees
