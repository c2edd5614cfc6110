mod Prelude
pub mod Truth
pub mod Found
pub mod Held
pub mod Along
pub mod Behind
pub mod Reading
pub mod Knowing
pub mod Missing
pub mod Totals
pub mod Sets
pub mod Ranks
pub mod Counted
pub mod Lines
