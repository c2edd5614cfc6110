pub mod Chained
pub mod Outcome
