pub mod Pruned
pub mod Ledgers
pub mod Same
