mod Prelude
pub mod Counted
pub mod NextBits
pub mod Opens
pub mod Views
pub mod Ordered
pub mod Worded
pub mod Turned
pub mod Meant
pub mod Refuting
pub mod Marked
pub mod Markings
pub mod Unforced
