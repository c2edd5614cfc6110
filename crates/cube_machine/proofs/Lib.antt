mod Prelude
pub mod Lists
pub mod Flags
pub mod Cubes
pub mod Places
pub mod Seats
pub mod Trees
pub mod Edges
pub mod Listed
pub mod Orders
pub mod Splits
pub mod Noted
pub mod Kept
