mod Prelude
pub mod Legal
pub mod Numbered
pub mod Seating
pub mod Steps
pub mod Tied
pub mod Walks
