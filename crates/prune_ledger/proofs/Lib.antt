mod Prelude
pub mod Edges
pub mod Marks
pub mod Sides
pub mod Grown
pub mod Turns
pub mod Flags
pub mod Finals
pub mod Seats
pub mod KeptUp
