mod Prelude
pub mod Positions
pub mod Ops
pub mod Firsts
pub mod Overwrites
pub mod Initials
pub mod Pairs
pub mod Squares
pub mod Sessions
