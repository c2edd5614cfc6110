pub mod Sources
pub mod Answers
pub mod Failures
pub mod Refusals
pub mod Verdicts
