pub mod Forced
pub mod Ledger
