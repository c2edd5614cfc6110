mod Prelude
pub mod Named
pub mod Answering
pub mod Counting
pub mod OneFormula
pub mod Statuses
pub mod OneVerified
