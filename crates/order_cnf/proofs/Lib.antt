mod Prelude
pub mod PairPlaces
pub mod Counts
pub mod Faults
pub mod Terms
pub mod Counted
pub mod WordBits
pub mod Filled
pub mod Cycles
pub mod Skipped
pub mod Walks
pub mod Numbered
pub mod Parts
pub mod Passed
pub mod Wholes
pub mod Rests
pub mod PlainFormula
