mod Prelude
pub mod Nodes
pub mod Ways
pub mod Grown
pub mod Fits
pub mod Alive
pub mod Closings
pub mod Counted
pub mod Lists
pub mod Growths
pub mod Upward
