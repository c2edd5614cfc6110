pub mod Crossed
pub mod Given
pub mod Firsts
pub mod Overwrites
pub mod Initials
pub mod Runs
