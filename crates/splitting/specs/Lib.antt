pub mod Locks
pub mod Names
pub mod Room
pub mod Halves
pub mod Sides
pub mod Laws
