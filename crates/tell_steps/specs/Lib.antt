pub mod Steps
pub mod Orders
pub mod Lines
pub mod Ledgers
pub mod Told
pub mod Rounds
