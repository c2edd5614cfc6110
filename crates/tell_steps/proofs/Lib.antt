mod Prelude
pub mod Leading
pub mod ChainSides
pub mod Chosen
pub mod Ledgers
pub mod Telling
pub mod Dropping
