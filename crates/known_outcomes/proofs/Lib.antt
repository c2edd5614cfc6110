pub mod Changed
mod Counted
